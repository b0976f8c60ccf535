-- Options. Assumes nothing.
use mathlib.Core.Path.{◌≡◌, subst}
use mathlib.Core.Option.{Option, none, some}

pub none_some : {A : Type 0} {x : A} → none ≡ some x → ⊥
none_some {A} {x} e = subst is_none e tt
  where
    is_none : Option A → Type 0
    is_none none = Unit {0}
    is_none (some y) = ⊥

pub some_inj : {A : Type 0} {x y : A} → some x ≡ some y → x ≡ y
some_inj e = cc
