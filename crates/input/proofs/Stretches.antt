-- A buffer fed by stretches, each up to the next line feed: the laws of the loop in `feed_buffer`. Assumes nothing.
use mathlib.Core.Path.{◌≡◌, refl, sym, ap, ap₂, ◌∙◌}
use mathlib.Core.Bool.{Bool, true, false}
use mathlib.Core.List.{List, [], ◌∷◌, ◌++◌, append_assoc, append-nil}
use Prim.Native.Nat.{ℕ, suc, ◌+◌, ◌*◌, ◌-◌, ◌≤◌, ◌<◌, min}
use native.Mathlib.Decide.{dec_le}
use native.Mathlib.Numerals.{add-one}
use native.Mathlib.Omega.{arith}
use lib.Dec.{eqb}
use lib.ListN.{length, take, drop, get_or, length-append, length-take, length-drop, take-append-drop, drop_of_length-le}
use lib.Seq.{take_all, take_at, drop_at, take-append-add, append_snoc, length-take-le, drop-cons, drop-drop, get_or-drop}
use borrow.Author.Tests.{eq-eqb}
use borrow.Rule.Slice.PartMut.{put_mid}
use Rattle.text.specs.Lines.{stretch}
use Rattle.text.proofs.Stretches.{stretch_at, stretch_within}
use Rattle.line.specs.Line.{print_line}
use Rattle.input.specs.Lines.{held, Fed, printing, fed}
use Rattle.input.proofs.Feeding.{held_step, held_short}

-- ---- a stretch at once

held_most : (l : List ℕ) → length (held l) ≤ 16499
unfolding held
held_most l = simp length-take (omega arith)

-- nothing more is held of a line that is held
held-nothing : (h : List ℕ) → length h ≤ 16499 → h ≡ held (h ++ [])
held-nothing h k = sym (ap held (append-nil h) ∙ held_short h k)

fed_byte : (h : List ℕ) (c : ℕ) (cs : List ℕ) → eqb c 10 ≡ false → fed h (c ∷ cs) ≡ fed (held (h ++ (c ∷ []))) cs
unfolding fed
fed_byte h c cs e = rw e refl

fed_feed : (h : List ℕ) (c : ℕ) (cs : List ℕ) → c ≡ 10 → fed h (c ∷ cs) ≡ printing (print_line h) (fed [] cs)
unfolding fed
fed_feed h c cs e = rw (eq-eqb c 10 e) refl

fed-stretch : (h l : List ℕ) → length h ≤ 16499 → fed h l ≡ fed (held (h ++ take (stretch l) l)) (drop (stretch l) l)
unfolding stretch
fed-stretch h [] k = ap (λ (x : List ℕ). fed x []) (held-nothing h k)
fed-stretch h (c ∷ cs) k = go (eqb c 10) refl (fed-stretch (held (h ++ (c ∷ []))) cs (held_most (h ++ (c ∷ []))))
  where
    go : (t : Bool) → eqb c 10 ≡ t
        → fed (held (h ++ (c ∷ []))) cs ≡ fed (held (held (h ++ (c ∷ [])) ++ take (stretch cs) cs)) (drop (stretch cs) cs)
        → fed h (c ∷ cs) ≡ fed (held (h ++ take (stretch (c ∷ cs)) (c ∷ cs))) (drop (stretch (c ∷ cs)) (c ∷ cs))
    go true e r = rw e (ap (λ (x : List ℕ). fed x (c ∷ cs)) (held-nothing h k))
    go false e r =
        fed_byte h c cs e ∙ r
        ∙ rw e
        (ap (λ (x : List ℕ). fed x (drop (stretch cs) cs))
        (held_step (h ++ (c ∷ [])) (take (stretch cs) cs) ∙ ap held (append_snoc h c (take (stretch cs) cs))))

-- ---- holding a stretch

-- what comes behind u bytes of a line, as far as there is room
held_part : (line part : List ℕ) (u n : ℕ) → length line ≡ 16499 → u ≤ 16499 → n ≡ min (length part) (16499 - u)
    → take u line ++ take n part ≡ held (take u line ++ part)
unfolding held
held_part line part u n long most least =
    let front : length (take u line) ≡ u = length-take-le u line (omega arith) in
    let room : length (take u line) + (16499 - u) ≡ 16499 = omega arith in
    ap (λ (x : List ℕ). take u line ++ x) (go (dec_le (length part) (16499 - u)))
    ∙ sym (take-append-add (take u line) part (16499 - u))
    ∙ ap (λ (k : ℕ). take k (take u line ++ part)) room
  where
    go : Dec (length part ≤ 16499 - u) → take n part ≡ take (16499 - u) part
    go (yes h) = take_all n part (omega arith) ∙ sym (take_all (16499 - u) part h)
    go (no h) = let e : n ≡ 16499 - u = omega arith in ap (λ (k : ℕ). take k part) e

pub hold_part : (line part : List ℕ) (u n : ℕ) → length line ≡ 16499 → u ≤ 16499 → n ≡ min (length part) (16499 - u)
    → take (u + n) (put_mid u (u + n - u) line (take n part)) ≡ held (take u line ++ part)
hold_part line part u n long most least =
    let front : length (take u line) ≡ u = length-take-le u line (omega arith) in
    let behind : length (take n part) ≡ n = length-take-le n part (omega arith) in
    let both : length (take u line ++ take n part) ≡ u + n = simp length-append (omega arith) in
    ap (take (u + n)) (sym (append_assoc (take u line) (take n part) _))
    ∙ take_at (take u line ++ take n part) _ (u + n) both
    ∙ held_part line part u n long most least

-- where nothing is put, for want of bytes or of room
pub hold_none : (line part : List ℕ) (u n : ℕ) → length line ≡ 16499 → u ≤ 16499 → n ≡ min (length part) (16499 - u) → n ≡ 0
    → take u line ≡ held (take u line ++ part)
hold_none line part u n long most least none =
    sym (append-nil (take u line)) ∙ ap (λ (k : ℕ). take u line ++ take k part) (sym none) ∙ held_part line part u n long most least

-- ---- the first n bytes of a list of m, or all where n is more

pub take_least : (l : List ℕ) (n m k : ℕ) → length l ≡ m → k ≡ min n m → take k l ≡ take n l
take_least l n m k long e = go (dec_le n m)
  where
    go : Dec (n ≤ m) → take k l ≡ take n l
    go (yes h) = let p : k ≡ n = omega arith in ap (λ (i : ℕ). take i l) p
    go (no h) = take_all k l (omega arith) ∙ sym (take_all n l (omega arith))

-- ---- the loop that feeds

module _ (buffer line₀ : List ℕ) (u : ℕ) (out₀ : List ℕ) where
  -- the buffer is fed up to `at`, and the stretch from there on ends at `end`; `size` bytes of `line` are held, and `printed` bytes of `out`
  -- are to be printed
  pub record SoFar (at end size printed : ℕ) (line out : List ℕ) : Type 0 where
    pub line_long : length line ≡ 16499
    pub out_long : length out ≡ length out₀
    pub most : size ≤ 16499
    pub ends : end ≡ at + stretch (drop at buffer)
    pub within : end ≤ length buffer
    pub room : printed + size ≤ u + 3 * at
    pub whole : fed (take u line₀) buffer ≡ printing (take printed out) (fed (take size line) (drop at buffer))
    pub behind : drop printed out ≡ drop printed out₀

  pub so_far_none : (end : ℕ) → length line₀ ≡ 16499 → u ≤ 16499 → end ≡ 0 + stretch (drop 0 buffer)
      → SoFar 0 end u 0 line₀ out₀
  so_far_none end long most ends =
      record {
        line_long = long;
        out_long = refl;
        most = most;
        ends = ends;
        within = omega (arith, stretch_within buffer 0 (omega arith));
        room = omega arith;
        whole = refl;
        behind = refl;
      }

module _ {buffer line₀ : List ℕ} {u : ℕ} {out₀ : List ℕ} {at end size printed : ℕ} {line out : List ℕ}
    (I : SoFar buffer line₀ u out₀ at end size printed line out)
    (n : ℕ) (line' : List ℕ) (stored : take n line' ≡ held (take size line ++ take (end - at) (drop at buffer))) where
  -- the stretch is held
  fed-held : fed (take size line) (drop at buffer) ≡ fed (take n line') (drop end buffer)
  fed-held =
      let s : ℕ = stretch (drop at buffer) in
      let e : s ≡ end - at = omega (arith, I.ends) in
      fed-stretch (take size line) (drop at buffer) (simp length-take (omega (arith, I.most)))
      ∙ ap₂ fed
      (ap (λ (k : ℕ). held (take size line ++ take k (drop at buffer))) e ∙ sym stored)
      (drop-drop s at buffer ∙ ap (λ (k : ℕ). drop k buffer) (sym I.ends))

  module _ (lt : end < length buffer) where
    feed_there : get_or buffer end 0 ≡ 10
    feed_there =
        let s : ℕ = stretch (drop at buffer) in
        ap (λ (k : ℕ). get_or buffer k 0) I.ends
        ∙ sym (get_or-drop at buffer s 0)
        ∙ stretch_at (drop at buffer) (simp length-drop (omega (arith, I.ends)))

    -- the line is printed
    fed-printed : fed (take size line) (drop at buffer) ≡ printing (print_line (take n line')) (fed [] (drop (end + 1) buffer))
    fed-printed =
        fed-held
        ∙ ap (fed (take n line')) (drop-cons buffer end 0 lt)
        ∙ fed_feed (take n line') (get_or buffer end 0) (drop (suc end) buffer) feed_there
        ∙ ap (λ (k : ℕ). printing (print_line (take n line')) (fed [] (drop k buffer))) (sym (add-one end))

    pub so_far_next : (p : ℕ) (out' : List ℕ) (end' : ℕ) → length line' ≡ 16499 → n ≤ size + (end - at) → length out' ≡ length out
        → out' ≡ take printed out ++ (print_line (take n line') ++ drop p out) → p ≡ printed + length (print_line (take n line'))
        → p ≤ printed + n + 3 → printed ≤ length out → end' ≡ end + 1 + stretch (drop (end + 1) buffer)
        → SoFar buffer line₀ u out₀ (end + 1) end' 0 p line' out'
    so_far_next p out' end' long few same put size_is fits h ends =
        let front : length (take printed out) ≡ printed = length-take-le printed out h in
        let head : List ℕ = take printed out ++ print_line (take n line') in
        let head_long : length head ≡ p = simp length-append (omega arith) in
        let put' : out' ≡ head ++ drop p out = put ∙ sym (append_assoc (take printed out) (print_line (take n line')) (drop p out)) in
        let text : take p out' ≡ head = ap (take p) put' ∙ take_at head (drop p out) p head_long in
        let rest : Fed = fed [] (drop (end + 1) buffer) in
        let j : ℕ = length (print_line (take n line')) in
        record {
          line_long = long;
          out_long = same ∙ I.out_long;
          most = omega arith;
          ends = ends;
          within = omega (arith, stretch_within buffer (end + 1) (omega arith));
          room = omega (arith, I.room, I.ends);
          whole =
              I.whole
              ∙ ap (printing (take printed out)) fed-printed
              ∙ ap {B = Fed} (λ (x : List ℕ). record { rest = rest.rest; printed = x })
              (sym (append_assoc (take printed out) (print_line (take n line')) rest.printed) ∙ ap (λ (x : List ℕ). x ++ rest.printed) (sym text));
          behind =
              ap (drop p) put'
              ∙ drop_at head (drop p out) p head_long
              ∙ ap (λ (k : ℕ). drop k out) size_is
              ∙ sym (drop-drop j printed out)
              ∙ ap (drop j) I.behind
              ∙ drop-drop j printed out₀
              ∙ ap (λ (k : ℕ). drop k out₀) (sym size_is);
        }

  -- no line feed is left
  module _ (last : length buffer ≤ end) where
    all_fed : fed (take u line₀) buffer ≡ record { rest = take n line'; printed = take printed out }
    unfolding fed
    all_fed =
        I.whole
        ∙ ap (printing (take printed out)) (fed-held ∙ ap (fed (take n line')) (drop_of_length-le buffer last))
        ∙ ap {B = Fed} (λ (x : List ℕ). record { rest = take n line'; printed = x }) (append-nil (take printed out))

    pub fed_all_lem : printed ≤ length out →
        let r : Fed = fed (take u line₀) buffer in
        (take n line' ≡ r.rest) × (out ≡ r.printed ++ drop printed out₀) × (printed ≡ length r.printed)
    fed_all_lem h =
        let text : take printed out ≡ (fed (take u line₀) buffer).printed = ap (λ (r : Fed). r.printed) (sym all_fed) in (
          ap (λ (r : Fed). r.rest) (sym all_fed),
          sym (take-append-drop printed out) ∙ ap₂ ◌++◌ text I.behind,
          sym (length-take-le printed out h) ∙ ap length text,
        )
