-- Each bit of the map is what the rule makes of it. Assumes nothing.
use mathlib.Core.Path.{◌≡◌, refl, sym, ap, subst, ◌∙◌}
use mathlib.Core.Bool.{Bool, true, false, not, cond}
use mathlib.Core.List.{List, [], ◌∷◌}
use mathlib.Core.Option.{Option, none, some}
use Prim.Native.Nat.{ℕ}
use lib.Dec.{eqb, ltb}
use lib.ListN.{length}
use Rattle.bits.specs.Bits.{bit}
use Rattle.answers.specs.Rules.{rule, first_of, is_count, map_words, count_and_map_rules}
use Rattle.map.specs.Map.{started, start_outcome}
use Rattle.map.proofs.MapFacts.{map_facts}
use Rattle.history.proofs.Options.{none_some}
use Rattle.suspects.specs.Lists.{Disk, disk, Step, on_sector, starts_map, looks_only, writes_images, step_leaves, list_leaves, noted_start, step_notes, list_notes, ruled, ruled_all, MapRule}
use Rattle.suspects.proofs.Calls.{map_calls}

-- no refusal of a start has the number of one that is done
start_refusal : (n w : ℕ) {k : ℕ} → first_of (count_and_map_rules n w) ≡ some k → eqb k 0 ≡ false
start_refusal n w {k} e = go (not (is_count n)) (not (eqb w (map_words n))) e
  where
    go : (x y : Bool) → first_of (rule 8 x ∷ rule 13 y ∷ []) ≡ some k → eqb k 0 ≡ false
    go true y z = let is : 8 ≡ k = cc in subst (λ (j : ℕ). eqb j 0 ≡ false) is refl
    go false true z = let is : 13 ≡ k = cc in subst (λ (j : ℕ). eqb j 0 ≡ false) is refl
    go false false z = absurd (none_some z)

-- a start
bit_begun : (i n : ℕ) (m : List ℕ) → bit i (start_outcome n m).1 ≡ ruled i (bit i m) (noted_start n (start_outcome n m).0)
bit_begun i n m = go (first_of (count_and_map_rules n (length m))) refl
  where
    Ruled : ℕ × List ℕ → Type 0
    Ruled r = bit i r.1 ≡ ruled i (bit i m) (noted_start n r.0)

    go : (o : Option ℕ) → first_of (count_and_map_rules n (length m)) ≡ o → Ruled (start_outcome n m)
    go none e = subst Ruled (sym (map_facts.starts n m e)) (map_facts.started_bit n i)
    go (some k) e =
        subst Ruled (sym (map_facts.start_refuses n m k e))
        (sym (ap (λ (b : Bool). cond b (ltb i n) (bit i m)) (start_refusal n (length m) e)))

-- one step
bit_step : (i : ℕ) (d : Disk) (e : Step) → bit i (step_leaves d e).map ≡ ruled i (bit i d.map) (step_notes d e)
bit_step i d (on_sector a c) = map_calls.bits d.images a c d.map i
bit_step i d (starts_map n) = bit_begun i n d.map
bit_step i d looks_only = refl
bit_step i d (writes_images v) = refl

-- every list, from any map
bits_ruled : (i : ℕ) (d : Disk) (es : List Step) → bit i (list_leaves d es).map ≡ ruled_all i (bit i d.map) (list_notes d es)
bits_ruled i d [] = refl
bits_ruled i d (e ∷ es) = bits_ruled i (step_leaves d e) es ∙ ap (λ (b : Bool). ruled_all i b (list_notes (step_leaves d e) es)) (bit_step i d e)

pub map_rule : MapRule
map_rule n v es i =
    let d : Disk = disk v (started n) in
    bits_ruled i d es ∙ ap (λ (b : Bool). ruled_all i b (list_notes d es)) (map_facts.started_bit n i)
