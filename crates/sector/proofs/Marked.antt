-- The marked table. Assumes nothing.
use mathlib.Core.Path.{◌≡◌, refl, sym, ap, ◌∙◌, subst}
use mathlib.Core.List.{List, [], ◌∷◌, ◌++◌, append-nil}
use Prim.Native.Nat.{ℕ, ◌^◌, ◌<◌}
use native.Mathlib.Nat.{min-le_left}
use native.Mathlib.Omega.{arith}
use lib.Dec.{lit<}
use lib.ListN.{length, take, drop, length-append, length-take}
use lib.Seq.{drop_at}
use lib.Bits.{bit_xor}
use Rattle.block.specs.Bytes.{Plain, from_bytes, to_bytes, blocks, blocks_of}
use Rattle.block.specs.Field.{times, double, horner, mul}
use Rattle.block.proofs.Blocks.{blocks_of-cons}
use Rattle.block.proofs.Field.{field_laws}
use Rattle.block.proofs.Lists.{bytes_append, bytes_take}
use Rattle.block.proofs.Numbers.{block_lt, bytes_to_bytes, from_to, length-to_bytes}
use Rattle.fips197.specs.Aes.{cipher_number}
use Rattle.fips197.proofs.Bounds.{cipher_lt}
use Rattle.fips197.proofs.Facts.{aes_facts}
use Rattle.hash.specs.Brw.{brw}
use Rattle.hash.proofs.BrwLaws.{hash_facts}
use Rattle.mode.specs.Sealing.{Key, Triple, hash_key, round_keys, tweak, tag_block, pad, local_block, remote_block, sides, sealed_by, triple}
use Rattle.mode.specs.Scheme.{Place, local, tag, remote, on, wide, Sector, Scheme, Lawful, dcm, scheme}
use Rattle.mode.proofs.Laws.{dcm_lawful}
use Rattle.sector.specs.Marked.{first, second, Clash, Marked}
use Rattle.verdict.specs.Verdict.{clashing, judge}
use Rattle.verdict.proofs.JudgeExact.{but_remote, but_local, but_two, judge_exact}

row_g_local : (g j : ℕ) → local_block (λ x. 0) g j 0x80000000000000000000000000000000 ≡ 0x80000000000000000000000000000087
unfolding local_block pad mul horner double times
row_g_local g j = refl

row_g_remote : (g j : ℕ) → remote_block (λ x. 0) g j 0x80000000000000000000000000000000 ≡ 0x87
unfolding remote_block pad mul horner double times
row_g_remote g j = refl

-- ---- row (h)

-- plaintexts with one tag clash, the one's local with the other's remote
crossed : (s : ℕ) (S : Scheme) → Lawful s S → (T : ℕ) (P Q g : List ℕ) → Plain s P → Plain s Q → g ≡ (S.sealed T P).tag → g ≡ (S.sealed T Q).tag → (P ≡ Q → ⊥)
    → judge S T (triple (S.sealed T P).local g (S.sealed T Q).remote) ≡ clashing
crossed s S L T P Q g p q eP eQ n =
    (judge_exact s S L T t sector clashing).1
    (P, Q, p, q, but_two S T t remote P (but_remote S T t P refl eP), but_two S T t local Q (but_local S T t Q eQ refl), n)
  where
    t : Triple
    t = triple (S.sealed T P).local g (S.sealed T Q).remote

    sector : Sector s t
    sector = record { places = at }
      where
        at : (r : Place) → Plain (wide s r) (on t r)
        at local = (L.shape T P p).places local
        at tag = subst (Plain 16) (sym eP) ((L.shape T P p).places tag)
        at remote = (L.shape T Q q).places remote

module _ (h : ℕ) (h-lt : h < 2 ^ 128) where
  two_blocks : (n : ℕ) → n < 2 ^ 128 → blocks_of (to_bytes 16 h ++ to_bytes 16 n) ≡ h ∷ n ∷ []
  unfolding blocks_of blocks
  two_blocks n l =
      blocks_of-cons h (to_bytes 16 n) h-lt ∙ ap (λ (x : List ℕ). h ∷ x) (ap blocks_of (sym (append-nil (to_bytes 16 n))) ∙ blocks_of-cons n [] l)

  plain_two : (n : ℕ) → Plain 32 (to_bytes 16 h ++ to_bytes 16 n)
  plain_two n = record {
    long = length-append (to_bytes 16 h) (to_bytes 16 n) ∙ omega (arith, length-to_bytes 16 h, length-to_bytes 16 n);
    bytes = bytes_append (to_bytes 16 h) (to_bytes 16 n) (bytes_to_bytes 16 h) (bytes_to_bytes 16 n);
  }

  -- the second block has no effect on the tag
  same_tag : (E : ℕ → ℕ) (T : ℕ) → tag_block E h T (first h) ≡ tag_block E h T (second h)
  unfolding tag_block
  same_tag E T =
      ap (λ (x : ℕ). E (bit_xor (mul h x) (E 0)))
      (ap (λ (l : List ℕ). brw h (l ++ (T ∷ []))) (two_blocks 0 (lit< tt)) ∙ hash_facts.row_h h 0 T
      ∙ sym (ap (λ (l : List ℕ). brw h (l ++ (T ∷ []))) (two_blocks 1 (lit< tt)) ∙ hash_facts.row_h h 1 T))

  apart : first h ≡ second h → ⊥
  apart e =
      let s = length-to_bytes 16 h in
      let d : to_bytes 16 0 ≡ to_bytes 16 1 = sym (drop_at (to_bytes 16 h) (to_bytes 16 0) 16 s) ∙ ap (drop 16) e ∙ drop_at (to_bytes 16 h) (to_bytes 16 1) 16 s in
      let z : ◌≡◌ {A = ℕ} 0 1 = sym (from_to 16 0 (lit< tt)) ∙ ap from_bytes d ∙ from_to 16 1 (lit< tt) in
      omega arith

  module _ (E : ℕ → ℕ) (E-lt : (x : ℕ) → E x < 2 ^ 128) (T : ℕ) where
    tags : ((dcm E h).sealed T (first h)).tag ≡ ((dcm E h).sealed T (second h)).tag
    unfolding dcm sealed_by sides
    tags = ap (to_bytes 16) (same_tag E T)

    clash : Clash (dcm E h) T (first h) (second h)
    clash =
        let lawful = dcm_lawful E E-lt h 32 refl in
        record {
          one_tag = tags;
          one_way = crossed 32 (dcm E h) lawful T (first h) (second h) _ (plain_two 0) (plain_two 1) refl tags apart;
          other_way = crossed 32 (dcm E h) lawful T (second h) (first h) _ (plain_two 1) (plain_two 0) tags refl (λ e. apart (sym e));
        }

key_lt : (k : Key) → Plain 32 k.bytes → hash_key k < 2 ^ 128
unfolding hash_key
key_lt k p = block_lt (take 16 k.bytes) (bytes_take 16 k.bytes p.bytes) (simp length-take (min-le_left 16 (length k.bytes)))

clash_key : (k : Key) → Plain 32 k.bytes → (volume address : ℕ) → Clash (scheme k) (tweak volume address) (first (hash_key k)) (second (hash_key k))
unfolding scheme
clash_key k p volume address = clash (hash_key k) (key_lt k p) (cipher_number (round_keys k)) (cipher_lt (round_keys k)) (tweak volume address)

pub marked : Marked
marked = record {
  row_a = field_laws.row_a;
  row_b = field_laws.row_b;
  row_c = hash_facts.row_c;
  row_d_two = hash_facts.row_d_two;
  row_d_three = hash_facts.row_d_three;
  row_d_four = hash_facts.row_d_four;
  row_d_five = hash_facts.row_d_five;
  row_e = hash_facts.row_e;
  row_f = hash_facts.row_f;
  row_g_local = row_g_local;
  row_g_remote = row_g_remote;
  row_h_first = λ h T. hash_facts.row_h h 0 T;
  row_h_second = λ h T. hash_facts.row_h h 1 T;
  row_h_clash = λ E E-lt h h-lt T. clash h h-lt E E-lt T;
  row_h_clash_key = clash_key;
  row_i_00 = aes_facts.row_i_00;
  row_i_53 = aes_facts.row_i_53;
}
