-- The verdict from four tests: whether local ⊕ remote fits the remote place and the tag, and whether what each side gives with the tag
-- fits the tag. Assumes nothing but the laws of the scheme.
use mathlib.Core.Path.{◌≡◌, sym, ◌∙◌, ap, subst}
use mathlib.Core.List.{List}
use Prim.Native.Nat.{ℕ}
use lib.ListN.{length}
use Rattle.block.specs.Bytes.{Plain, xor_bytes}
use Rattle.block.proofs.Lists.{xor_bytes_comm, xor_bytes_cancel}
use Rattle.mode.specs.Sealing.{Triple}
use Rattle.mode.specs.Scheme.{Place, local, tag, remote, Sector, Scheme, Lawful}
use Rattle.verdict.specs.Verdict.{Fits, FitsTwo, Verdict, whole, doubtful, lost, clashing, candidate, Means, judge}
use Rattle.verdict.proofs.JudgeExact.{local_tag, tag_remote, FitsBut, but_local, but_tag, but_remote, two_but, but_two, only, candidate_plain, judge_exact}

module _ (s : ℕ) (S : Scheme) (L : Lawful s S) (T : ℕ) (t : Triple) (σ : Sector s t) where
  abbrev P₁ : List ℕ
  P₁ = candidate S T t remote

  abbrev P₂ : List ℕ
  P₂ = candidate S T t local

  abbrev P₃ : List ℕ
  P₃ = candidate S T t tag

  -- ---- each test settles the other place

  left_fits : Fits S T t tag P₁ → Fits S T t local P₁
  unfolding candidate
  left_fits e = sym (L.onto_left T t.tag t.local (σ.places tag) (σ.places local) (sym e))

  right_fits : Fits S T t tag P₂ → Fits S T t remote P₂
  unfolding candidate
  right_fits e = sym (L.onto_right T t.tag t.remote (σ.places tag) (σ.places remote) (sym e))

  sum_fits : Fits S T t remote P₃ → Fits S T t local P₃
  unfolding candidate
  sum_fits e =
      let l : List ℕ = t.local in
      let r : List ℕ = t.remote in
      let sealed : Triple = S.sealed T P₃ in
      let shape = (L.shape T P₃ (candidate_plain s S L T t σ tag)).places in
      let d : length r ≡ length l = (σ.places remote).long ∙ sym (σ.places local).long in
      let d' : length sealed.remote ≡ length sealed.local = (shape remote).long ∙ sym (shape local).long in
      sym (xor_bytes_cancel r l d)
      ∙ ap (xor_bytes r) (xor_bytes_comm r l ∙ sym (L.sum T P₃ (candidate_plain s S L T t σ tag)) ∙ xor_bytes_comm sealed.local sealed.remote)
      ∙ ap (λ (x : List ℕ). xor_bytes x (xor_bytes sealed.remote sealed.local)) e
      ∙ xor_bytes_cancel sealed.remote sealed.local d'

  left_but : Fits S T t tag P₁ → FitsBut S T t remote P₁
  left_but e = but_remote S T t P₁ (left_fits e) e

  right_but : Fits S T t tag P₂ → FitsBut S T t local P₂
  right_but e = but_local S T t P₂ e (right_fits e)

  sum_but : Fits S T t remote P₃ → FitsBut S T t tag P₃
  sum_but e = but_tag S T t P₃ (sum_fits e) e

  -- what fits two places is one of the three
  found : {A : Type 0} (Q : List ℕ) → Plain s Q → FitsTwo S T t Q → (Q ≡ P₁ → Fits S T t tag P₁ → A) → (Q ≡ P₂ → Fits S T t tag P₂ → A) → (Q ≡ P₃ → Fits S T t remote P₃ → A) → A
  found {A} Q h f left right sum = go (two_but S T t Q f).0 (two_but S T t Q f).1
    where
      go : (d : Place) → FitsBut S T t d Q → A
      go local b =
          let e : Q ≡ P₂ = only s S L T t local Q h b in
          right e (subst (λ (R : List ℕ). Fits S T t tag R) e (b tag (λ q. local_tag (sym q))))
      go tag b =
          let e : Q ≡ P₃ = only s S L T t tag Q h b in
          sum e (subst (λ (R : List ℕ). Fits S T t remote R) e (b remote (λ q. tag_remote (sym q))))
      go remote b =
          let e : Q ≡ P₁ = only s S L T t remote Q h b in
          left e (subst (λ (R : List ℕ). Fits S T t tag R) e (b tag tag_remote))

  plain : (d : Place) → Plain s (candidate S T t d)
  plain = candidate_plain s S L T t σ

  exact : (w : Verdict) → Means s S T t w → judge S T t ≡ w
  exact w m = (judge_exact s S L T t σ w).1 m

  all_three : (P : List ℕ) → Fits S T t local P → Fits S T t tag P → Fits S T t remote P → (p : Place) → Fits S T t p P
  all_three P x y z local = x
  all_three P x y z tag = y
  all_three P x y z remote = z

  -- ---- the sum fits both sides

  pub is_whole_lem : Fits S T t remote P₃ → Fits S T t tag P₃ → judge S T t ≡ whole P₃
  is_whole_lem r g = exact (whole P₃) (plain tag, all_three P₃ (sum_fits r) g r)

  module _ (r : Fits S T t remote P₃) (no-tag : Fits S T t tag P₃ → ⊥) where
    pub doubtful_tag : (Fits S T t tag P₁ → ⊥) → (Fits S T t tag P₂ → ⊥) → judge S T t ≡ doubtful tag P₃
    doubtful_tag no-left no-right =
        exact (doubtful tag P₃) (plain tag, but_two S T t tag P₃ (sum_but r), (λ Q h f. found Q h f (λ e g. absurd (no-left g)) (λ e g. absurd (no-right g)) (λ e g. e)), no-tag)

    clash : (Q : List ℕ) → Plain s Q → FitsTwo S T t Q → Fits S T t tag Q → judge S T t ≡ clashing
    clash Q h f g =
        exact clashing (P₃, Q, plain tag, h, but_two S T t tag P₃ (sum_but r), f, λ e. no-tag (subst (λ (R : List ℕ). Fits S T t tag R) (sym e) g))

    pub clash_left : Fits S T t tag P₁ → judge S T t ≡ clashing
    clash_left g = clash P₁ (plain remote) (but_two S T t remote P₁ (left_but g)) g

    pub clash_right : Fits S T t tag P₂ → judge S T t ≡ clashing
    clash_right g = clash P₂ (plain local) (but_two S T t local P₂ (right_but g)) g

  -- ---- the sum does not

  module _ (no-sum : Fits S T t remote P₃ → ⊥) where
    -- no plaintext fits both sides
    apart : (Q : List ℕ) → Plain s Q → Fits S T t local Q → Fits S T t remote Q → ⊥
    apart Q h l r = no-sum (subst (λ (R : List ℕ). Fits S T t remote R) (only s S L T t tag Q h (but_tag S T t Q l r)) r)

    pub is_lost_lem : (Fits S T t tag P₁ → ⊥) → (Fits S T t tag P₂ → ⊥) → judge S T t ≡ lost
    is_lost_lem no-left no-right = exact lost (λ Q h f. found Q h f (λ e g. no-left g) (λ e g. no-right g) (λ e g. no-sum g))

    pub doubtful_remote : Fits S T t tag P₁ → (Fits S T t tag P₂ → ⊥) → judge S T t ≡ doubtful remote P₁
    doubtful_remote g no-right =
        exact (doubtful remote P₁)
        (plain remote, but_two S T t remote P₁ (left_but g), (λ Q h f. found Q h f (λ e k. e) (λ e k. absurd (no-right k)) (λ e k. absurd (no-sum k))), apart P₁ (plain remote) (left_fits g))

    pub doubtful_local : (Fits S T t tag P₁ → ⊥) → Fits S T t tag P₂ → judge S T t ≡ doubtful local P₂
    doubtful_local no-left g =
        exact (doubtful local P₂)
        (plain local, but_two S T t local P₂ (right_but g), (λ Q h f. found Q h f (λ e k. absurd (no-left k)) (λ e k. e) (λ e k. absurd (no-sum k))), λ l. apart P₂ (plain local) l (right_fits g))

    pub clash_both : Fits S T t tag P₁ → Fits S T t tag P₂ → judge S T t ≡ clashing
    clash_both g k =
        exact clashing
        (P₁, P₂, plain remote, plain local, but_two S T t remote P₁ (left_but g), but_two S T t local P₂ (right_but k), λ e. apart P₁ (plain remote) (left_fits g) (subst (λ (R : List ℕ). Fits S T t remote R) (sym e) (right_fits k)))
