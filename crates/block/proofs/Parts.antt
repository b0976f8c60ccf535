-- Laws of the parts of a list. Assumes nothing.
use Rattle.std.proofs.Common.{◌≡◌, ℕ, zero, suc, ◌+◌, ◌-◌, ◌*◌, ◌<◌, ◌≤◌, min, ◌⊎◌, List, ◌++◌, length, get_or, take, drop, sym, ap, ◌∙◌, subst, ap₂, inl, inr, append_assoc, mul-le-mul_right, suc-mul, zero-mul, arith, length-append, length-drop, length-take, length-take-le, get_or-drop, take_all, get_or-take, take_at, get_or-append-add, ext_get_or, take-add, drop_at}
use native.Mathlib.Decide.{dec_lt}
use lib.ListN.{get_or-append}
use Rattle.block.specs.Bytes.{Bytes, part, patch}
use Rattle.block.proofs.Lists.{bytes_take, bytes_drop, bytes_append}

pub bytes_part : (w i : ℕ) (image : List ℕ) → Bytes image → Bytes (part w i image)
unfolding part
bytes_part w i image h = bytes_take w (drop (i * w) image) (bytes_drop (i * w) image h)

pub bytes_patch : (w i : ℕ) (image b : List ℕ) → Bytes image → Bytes b → Bytes (patch w i b image)
unfolding patch
bytes_patch w i image b h g =
    bytes_append (take (i * w) image) (b ++ drop (i * w + w) image) (bytes_take (i * w) image h)
    (bytes_append b (drop (i * w + w) image) g (bytes_drop (i * w + w) image h))

-- part i of n parts of w ends within the n
pub part_end : (w n i : ℕ) → i < n → i * w + w ≤ n * w
part_end w n i h = subst (λ (m : ℕ). m ≤ n * w) (suc-mul i w) (mul-le-mul_right w h)

get_or' : List ℕ → ℕ → ℕ
get_or' l k = get_or l k 0

ne_lt : (j i : ℕ) → (j ≡ i → ⊥) → (j < i) ⊎ (i < j)
ne_lt j i ne = go (dec_lt j i)
  where
    go : Dec (j < i) → (j < i) ⊎ (i < j)
    go (yes h) = inl h
    go (no h) = inr (omega arith)

module _ (w n i : ℕ) (lt : i < n) (image : List ℕ) (long : length image ≡ n * w) where
  pub length_part : length (part w i image) ≡ w
  unfolding part
  length_part = simp (length-take, length-drop) (omega (arith, part_end w n i lt))

  head_long : length (take (i * w) image) ≡ i * w
  head_long = length-take-le (i * w) image (omega (arith, part_end w n i lt))

  module _ (b : List ℕ) (wide : length b ≡ w) where
    pub length-patch : length (patch w i b image) ≡ n * w
    unfolding patch
    length-patch = simp (length-append, length-drop) (omega (arith, part_end w n i lt, head_long))

    pub part-patch : part w i (patch w i b image) ≡ b
    unfolding part patch
    part-patch =
        ap (take w) (drop_at (take (i * w) image) (b ++ drop (i * w + w) image) (i * w) head_long)
        ∙ take_at b (drop (i * w + w) image) w wide

    get_or_before : (k : ℕ) → k < i * w → get_or (patch w i b image) k 0 ≡ get_or image k 0
    unfolding patch
    get_or_before k h =
        get_or-append (take (i * w) image) (b ++ drop (i * w + w) image) 0 k (omega (arith, head_long))
        ∙ get_or-take (i * w) image k 0 h

    get_or_behind : (k : ℕ) → i * w + w ≤ k → get_or (patch w i b image) k 0 ≡ get_or image k 0
    unfolding patch get_or'
    get_or_behind k h =
        let m : ℕ = k - (i * w + w) in
        let front : List ℕ = take (i * w) image ++ b in
        let e : length front + m ≡ k = omega (arith, length-append (take (i * w) image) b, head_long) in
        ap (get_or' (patch w i b image)) (sym e)
        ∙ ap (λ (l : List ℕ). get_or l (length front + m) 0) (sym (append_assoc (take (i * w) image) b (drop (i * w + w) image)))
        ∙ get_or-append-add front (drop (i * w + w) image) m 0
        ∙ get_or-drop (i * w + w) image m 0
        ∙ ap (get_or' image) (omega arith)

    -- another part is as before
    pub part_other : (j : ℕ) → (j ≡ i → ⊥) → part w j (patch w i b image) ≡ part w j image
    unfolding part
    part_other j ne =
        ext_get_or 0 (take w (drop (j * w) (patch w i b image))) (take w (drop (j * w) image))
        (simp (length-take, length-drop) (ap (λ (m : ℕ). min w (m - j * w)) (length-patch ∙ sym long)))
        (λ k h. elements k (omega (arith, simp (length-take, length-drop) at h)))
      where
        apart : (k : ℕ) → k < w → (j < i) ⊎ (i < j) → get_or (patch w i b image) (j * w + k) 0 ≡ get_or image (j * w + k) 0
        apart k h (inl l) = get_or_before (j * w + k) (omega (arith, part_end w i j l))
        apart k h (inr l) = get_or_behind (j * w + k) (omega (arith, part_end w j i l))

        elements : (k : ℕ) → k < w → get_or (take w (drop (j * w) (patch w i b image))) k 0 ≡ get_or (take w (drop (j * w) image)) k 0
        elements k h =
            get_or-take w (drop (j * w) (patch w i b image)) k 0 h
            ∙ get_or-drop (j * w) (patch w i b image) k 0
            ∙ apart k h (ne_lt j i ne)
            ∙ sym (get_or-drop (j * w) image k 0)
            ∙ sym (get_or-take w (drop (j * w) image) k 0 h)

-- a list is known by its parts
parts_take : (w n : ℕ) (x y : List ℕ) → ((j : ℕ) → j < n → part w j x ≡ part w j y) → take (n * w) x ≡ take (n * w) y
unfolding part
parts_take w zero x y h = ap (λ (k : ℕ). take k x) (zero-mul w) ∙ sym (ap (λ (k : ℕ). take k y) (zero-mul w))
parts_take w (suc n) x y h =
    ap (λ (k : ℕ). take k x) (suc-mul n w)
    ∙ take-add (n * w) w x
    ∙ ap₂ ◌++◌ (parts_take w n x y (λ j l. h j (omega arith))) (h n (omega arith))
    ∙ sym (take-add (n * w) w y)
    ∙ ap (λ (k : ℕ). take k y) (sym (suc-mul n w))

pub parts_all : (w n : ℕ) (x y : List ℕ) → length x ≡ n * w → length y ≡ n * w → ((j : ℕ) → j < n → part w j x ≡ part w j y) → x ≡ y
parts_all w n x y p q h = sym (take_all (n * w) x (omega arith)) ∙ parts_take w n x y h ∙ take_all (n * w) y (omega arith)
