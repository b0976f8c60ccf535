-- What a write's read answers, and what its calls leave, one after the other. Assumes nothing.
use mathlib.Core.Path.{◌≡◌, refl, sym, ap, ◌∙◌}
use mathlib.Core.List.{List, [], ◌∷◌}
use Prim.Native.Nat.{ℕ, min}
use lib.ListN.{length}
use Rattle.mode.specs.Sealing.{Triple}
use Rattle.answers.specs.declared.Found.{Found}
use Rattle.answers.specs.declared.Found.TheVariants.{Whole, Doubtful}
use Rattle.answers.specs.declared.Place.{Place}
use Rattle.answers.specs.declared.Refusal.{Refusal}
use Rattle.answers.specs.Answers.{place_named, finding_number, refusal_number}
use Rattle.answers.specs.Rules.{Args}
use Rattle.history.specs.Volume.{Call, first, second, third, mend, read, mirror}
use Rattle.suspects.specs.Marks.{map_outcome, map_read_outcome}
use Rattle.suspects.proofs.Marking.{refusal_apart}
use Rattle.suspects.proofs.Calls.{map_calls}
use Rattle.writes.specs.Write.{stages, following, calls_leave, write_outcome}
use Rattle.writes.proofs.Following.{after_doubt, after-refusal, wrote}
use Rattle.writes.proofs.Room.{least_read}
use Rattle.laptop.specs.declared.Step.{Step}
use Rattle.laptop.specs.Inner.{call_of}

module _ (v : Triple) (a : Args) (m : List ℕ) where
  -- ---- the read

  pub judged : (room : ℕ) (out : List ℕ) → length out ≡ min room 4097 → {k : ℕ} {x n : List ℕ} → map_read_outcome mirror v a out m ≡ (k, (x, n))
      → map_outcome mirror v a (read room) m ≡ (k, (v, n))
  judged room out e h =
      sym (least_read v a m room)
      ∙ ap (λ (o : ℕ). map_outcome mirror v a (read o) m) (sym e)
      ∙ map_calls.read_same v a out m
      ∙ ap (λ (r : ℕ × (List ℕ × List ℕ)). (r.0, (v, r.1.1))) h

  -- ---- a call that follows it

  pub made : (P : List ℕ) {s : Step} (t : Step) → s ≡ t → {k : ℕ} {d : Triple × List ℕ} → map_outcome mirror v a (call_of t P) m ≡ (k, d)
      → (map_outcome mirror v a (call_of s P) m).1 ≡ d
  made P t e h = ap (λ (s : Step). (map_outcome mirror v a (call_of s P) m).1) e ∙ ap (λ (r : ℕ × (Triple × List ℕ)). r.1) h

-- ---- calls one after the other

module _ (a : Args) where
  after_one : (cs : List Call) (c : Call) (v : Triple) (m : List ℕ) {d e : Triple × List ℕ} → (map_outcome mirror v a c m).1 ≡ d → calls_leave mirror a cs d ≡ e
      → calls_leave mirror a (c ∷ cs) (v, m) ≡ e
  after_one cs c v m h g = ap (calls_leave mirror a cs) h ∙ g

  pub after_three : (P : List ℕ) (v : Triple) (m : List ℕ) {v₁ v₂ : Triple} {m₁ m₂ : List ℕ} {d : Triple × List ℕ} → (map_outcome mirror v a (first P) m).1 ≡ (v₁, m₁)
      → (map_outcome mirror v₁ a (second P) m₁).1 ≡ (v₂, m₂) → (map_outcome mirror v₂ a (third P) m₂).1 ≡ d → calls_leave mirror a (stages P) (v, m) ≡ d
  after_three P v m e f g = after_one (second P ∷ third P ∷ []) (first P) v m e (after_one (third P ∷ []) (second P) _ _ f g)

-- ---- the write

module _ (v : Triple) (a : Args) (P m : List ℕ) where
  module _ {j : Found} {d : Triple × List ℕ} (reads : map_outcome mirror v a (read (length P)) m ≡ (finding_number j, d)) where
    pub wrote_doubtful : {p : Place} → j ≡ Doubtful p → {e f : Triple × List ℕ} → (map_outcome mirror d.0 a mend d.1).1 ≡ e → calls_leave mirror a (stages P) e ≡ f
        → write_outcome mirror v a P m ≡ (finding_number j, f)
    wrote_doubtful {p} q h g =
        wrote v a P m reads (ap (λ (i : Found). following P (finding_number i)) q ∙ after_doubt P (place_named p))
        (after_one a (stages P) mend d.0 d.1 h g)

    pub wrote_whole : ((p : Place) → j ≡ Doubtful p → ⊥) → {e : Triple × List ℕ} → calls_leave mirror a (stages P) d ≡ e → write_outcome mirror v a P m ≡ (finding_number j, e)
    wrote_whole q g = wrote v a P m reads (go j q) g
      where
        go : (i : Found) → ((p : Place) → i ≡ Doubtful p → ⊥) → following P (finding_number i) ≡ stages P
        go Whole q = refl
        go (Doubtful p) q = absurd (q p refl)

  pub wrote_refused : (f : Refusal) {k : ℕ} {d : Triple × List ℕ} → map_outcome mirror v a (read (length P)) m ≡ (refusal_number f, d) → k ≡ refusal_number f
      → write_outcome mirror v a P m ≡ (k, d)
  wrote_refused f {d = d} reads e =
      wrote v a P m reads (after-refusal P (refusal_number f) (refusal_apart f)) refl ∙ ap (λ (k : ℕ). (k, d)) (sym e)
