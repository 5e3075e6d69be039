-- Form 48, and form 256.
use Rattle.std.proofs.Common.{◌≡◌, ◌≢◌, ℕ, suc, ◌+◌, ◌-◌, ◌*◌, ◌/◌, ◌%◌, ◌^◌, ◌<◌, ◌≤◌, ◌==◌, ◌⊎◌, cond, ltb, inl, inr, refl, sym, subst, ap, ◌∙◌, arith, pow-suc, mul_assoc, mul_comm, add-mul, lt-ltb, le-ltb}
use Rattle.std.proofs.lemmas.Bool.{cases_eq, cases_lt, eq-eqb, ne_eqb}
use Rattle.std.proofs.lemmas.Nat.{pow-add, div-mul-add, div-add-mod'}
use Rattle.std.proofs.Math.Nat.{div-div-eq-div-mul, add-mul-div_right, mod-lt}
use Rattle.radix_nodes.specs.Bytes.{byte_set}
use Rattle.radix_nodes.specs.Cells.{CellWords, index_of, indexed, IsIndexed, IsForm, HasSpare}
use Rattle.radix_nodes.specs.Changes.{with_word}
use Rattle.radix_nodes.specs.Stores.{PlaceFills, IndexAdds, IndexMoves, IndexGoes, DirectStores}
use Rattle.radix_nodes.proofs.EntryForms.{here_set, other_set}
use Rattle.radix_nodes.proofs.Powers.{power_pos}

-- a word by a byte of it, what stands above and below
abbrev above : ℕ → ℕ → ℕ
above word k = word / 256 ^ k / 256

set_is : (word k b : ℕ) → byte_set word k b ≡ (above word k * 256 + b) * 256 ^ k + word % 256 ^ k
set_is word k b =
    let p = 256 ^ k in
    let q = word / p in
    let whole : q * p + word % p ≡ word = div-add-mod' word p in
    let digits : q ≡ q / 256 * 256 + q % 256 = omega arith in
    let split : q * p ≡ q / 256 * 256 * p + q % 256 * p = ap (λ n. n * p) digits ∙ add-mul (q / 256 * 256) (q % 256) p in
    let other : (q / 256 * 256 + b) * p ≡ q / 256 * 256 * p + b * p = add-mul (q / 256 * 256) b p in
    let high = q / 256 * 256 * p in
    let old = q % 256 * p in
    let new = b * p in
    let low = word % p in
    let target = (q / 256 * 256 + b) * p in
    let word_is : word ≡ high + old + low = sym whole ∙ ap (λ n. n + low) split in
    let set : byte_set word k b ≡ word - old + new = refl in
    set ∙ (let is : word - old + new ≡ target + low = omega arith in is)

pub set_here : (word k b : ℕ) → b < 256 → byte_set word k b / 256 ^ k % 256 ≡ b
set_here word k b small =
    let p = 256 ^ k in
    let quotient : byte_set word k b / p ≡ above word k * 256 + b = ap (λ n. n / p) (set_is word k b) ∙ div-mul-add (above word k * 256 + b) p (word % p) (mod-lt word (power_pos k)) in
    ap (λ n. n % 256) quotient ∙ (let h = above word k in let is : (h * 256 + b) % 256 ≡ b = omega arith in is)

set_above : (word k j b : ℕ) → b < 256 → k < j → byte_set word k b / 256 ^ j % 256 ≡ word / 256 ^ j % 256
set_above word k j b small lt =
    let p = 256 ^ k in
    let m = 256 ^ (j - (k + 1)) in
    let power : 256 ^ j ≡ p * 256 * m =
    ap (λ n. 256 ^ n) (let is : j ≡ suc k + (j - (k + 1)) = omega arith in is) ∙ pow-add 256 (suc k) (j - (k + 1)) ∙ ap (λ n. n * m) (pow-suc 256 k) in
    let down : (n : ℕ) → n / 256 ^ j ≡ n / p / 256 / m = λ n. ap (λ d. n / d) power ∙ sym (div-div-eq-div-mul n (p * 256) m) ∙ ap (λ d. d / m) (sym (div-div-eq-div-mul n p 256)) in
    let quotient : byte_set word k b / p ≡ above word k * 256 + b = ap (λ n. n / p) (set_is word k b) ∙ div-mul-add (above word k * 256 + b) p (word % p) (mod-lt word (power_pos k)) in
    let h = above word k in
    let same : byte_set word k b / p / 256 ≡ h = ap (λ n. n / 256) quotient ∙ (let is : (h * 256 + b) / 256 ≡ h = omega arith in is) in
    ap (λ n. n % 256) (down (byte_set word k b) ∙ ap (λ n. n / m) same ∙ sym (down word))

set_below : (word k j b : ℕ) → j < k → byte_set word k b / 256 ^ j % 256 ≡ word / 256 ^ j % 256
set_below word k j b lt =
    let p = 256 ^ k in
    let r = 256 ^ j in
    let m = 256 ^ (k - (j + 1)) in
    let power : p ≡ 256 * m * r =
    ap (λ n. 256 ^ n) (let is : k ≡ (k - (j + 1)) + suc j = omega arith in is) ∙ pow-add 256 (k - (j + 1)) (suc j) ∙ ap (λ n. m * n) (pow-suc 256 j ∙ mul_comm r 256) ∙ sym (mul_assoc m 256 r) ∙ ap (λ n. n * r) (mul_comm m 256) in
    let low = word % p in
    let byte : (q : ℕ) → (q * p + low) / r % 256 ≡ low / r % 256 = λ q.
    let times : q * p ≡ q * (256 * m) * r = ap (λ n. q * n) power ∙ sym (mul_assoc q (256 * m) r) in
    let quotient : (q * p + low) / r ≡ low / r + q * (256 * m) = ap (λ n. (n + low) / r) times ∙ ap (λ n. n / r) (let is : q * (256 * m) * r + low ≡ low + q * (256 * m) * r = omega arith in is) ∙ add-mul-div_right low (q * (256 * m)) (power_pos j) in
    let turned : q * (256 * m) ≡ 256 * (q * m) = sym (mul_assoc q 256 m) ∙ ap (λ n. n * m) (mul_comm q 256) ∙ mul_assoc 256 q m in
    let a = low / r in
    let n = q * m in
    ap (λ d. d % 256) (quotient ∙ ap (λ d. a + d) turned) ∙ (let is : (a + 256 * n) % 256 ≡ a % 256 = omega arith in is) in
    ap (λ n. n / r % 256) (set_is word k b) ∙ byte (above word k * 256 + b) ∙ sym (ap (λ n. n / r % 256) (sym (div-add-mod' word p)) ∙ byte (word / p))

pub set_other : (word k j b : ℕ) → b < 256 → j ≢ k → byte_set word k b / 256 ^ j % 256 ≡ word / 256 ^ j % 256
set_other word k j b small apart = elim (cases_lt j k) [
  | inl less ↦ set_below word k j b less
  | inr rest ↦ set_above word k j b small (omega (arith, apart))
]

-- what a byte of the index is after a store of another
module _ (c : CellWords) (byte v : ℕ) (small : byte < 256) (fits : v < 256) where
  abbrev at_word : ℕ
  at_word = 8 + byte / 8

  abbrev c' : CellWords
  c' = with_word c at_word (byte_set (c at_word) (byte % 8) v)

  pub index_here : index_of c' byte ≡ v
  index_here = ap (λ w. w / 256 ^ (byte % 8) % 256) (here_set c at_word (byte_set (c at_word) (byte % 8) v)) ∙ set_here (c at_word) (byte % 8) v fits

  pub index_other : (b : ℕ) → b ≢ byte → index_of c' b ≡ index_of c b
  index_other b apart = elim (cases_eq (b / 8) (byte / 8)) [
    | inl same ↦
        let at : 8 + b / 8 ≡ at_word = omega arith in
        let other : b % 8 ≢ byte % 8 = λ e. apart (omega arith) in
        ap (λ o. c' o / 256 ^ (b % 8) % 256) at ∙ ap (λ w. w / 256 ^ (b % 8) % 256) (here_set c at_word (byte_set (c at_word) (byte % 8) v)) ∙ set_other (c at_word) (byte % 8) (b % 8) v fits other
        ∙ sym (ap (λ o. c o / 256 ^ (b % 8) % 256) at)
    | inr other ↦ ap (λ w. w / 256 ^ (b % 8) % 256) (other_set c at_word (byte_set (c at_word) (byte % 8) v) (8 + b / 8) (λ e. other (omega arith)))
  ]

  reference_kept : (place : ℕ) → c' (40 + place) ≡ c (40 + place)
  reference_kept place = other_set c at_word (byte_set (c at_word) (byte % 8) v) (40 + place) (λ e. omega arith)

  spare_kept : HasSpare c → HasSpare c'
  spare_kept spare o low high = other_set c at_word (byte_set (c at_word) (byte % 8) v) o (λ e. omega arith) ∙ spare o low high

-- the child under a byte of the index
pub child_at : (c : CellWords) (b i : ℕ) → b < 256 → index_of c b ≡ i → i ≢ 0 → indexed c b ≡ c (39 + i)
child_at c b i small is some_index =
    ap (λ t. cond t (cond (index_of c b == 0) 0 (c (39 + index_of c b))) 0) (lt-ltb b 256 small) ∙ ap (λ n. cond (n == 0) 0 (c (39 + n))) is ∙ ap (λ t. cond t 0 (c (39 + i))) (ne_eqb i 0 some_index)

pub child_none : (c : CellWords) (b : ℕ) → b < 256 → index_of c b ≡ 0 → indexed c b ≡ 0
child_none c b small is = ap (λ t. cond t (cond (index_of c b == 0) 0 (c (39 + index_of c b))) 0) (lt-ltb b 256 small) ∙ ap (λ t. cond t 0 (c (39 + index_of c b))) (eq-eqb (index_of c b) 0 is)

-- with the same index and references it is the same
child_alike : (c c' : CellWords) (b : ℕ) → (b < 256 → index_of c' b ≡ index_of c b) → (b < 256 → index_of c b ≢ 0 → c' (39 + index_of c b) ≡ c (39 + index_of c b)) → indexed c' b ≡ indexed c b
child_alike c c' b same kept = elim (cases_lt b 256) [
  | inl small ↦ elim (cases_eq (index_of c b) 0) [
    | inl none ↦ child_none c' b small (same small ∙ none) ∙ sym (child_none c b small none)
    | inr some_index ↦ child_at c' b (index_of c b) small (same small) some_index ∙ kept small some_index ∙ sym (child_at c b (index_of c b) small refl some_index)
  ]
  | inr past ↦ beyond c' b past ∙ sym (beyond c b past)
]
  where
    beyond : (c : CellWords) (b : ℕ) → 256 ≤ b → indexed c b ≡ 0
    beyond c b past = ap (λ t. cond t (cond (index_of c b == 0) 0 (c (39 + index_of c b))) 0) (le-ltb b 256 past)

pub form_48 : (c : CellWords) → HasSpare c → IsIndexed c → IsForm 4 c
form_48 c spare is = record { spare = λ other. spare; four = λ k. absurd (wrong2 4 refl k); sixteen = λ k. absurd (wrong3 4 refl k); forty_eight = λ k. is }
  where
    wrong2 : (n : ℕ) → n ≡ 4 → n ≡ 2 → ⊥
    wrong2 n a b = omega arith

    wrong3 : (n : ℕ) → n ≡ 4 → n ≡ 3 → ⊥
    wrong3 n a b = omega arith

not_two : (n : ℕ) → n ≡ 4 → n ≢ 2
not_two n a b = omega arith

spare_of : (c : CellWords) → IsForm 4 c → HasSpare c
spare_of c form = form.spare (not_two 4 refl)

pub indexed_of : (c : CellWords) → IsForm 4 c → IsIndexed c
indexed_of c form = form.forty_eight refl

pub place_fills : PlaceFills
place_fills c place reference form within free =
    let c' = with_word c (40 + place) reference in
    let is = indexed_of c form in
    let index_same : (b : ℕ) → b < 256 → index_of c' b ≡ index_of c b = λ b small. ap (λ w. w / 256 ^ (b % 8) % 256) (other_set c (40 + place) reference (8 + b / 8) (λ e. omega arith)) in
    let kept : (b : ℕ) → b < 256 → index_of c b ≢ 0 → c' (39 + index_of c b) ≡ c (39 + index_of c b) = λ b small some_index.
    let apart = free b small in other_set c (40 + place) reference (39 + index_of c b) (λ e. apart (omega arith)) in
    record {
      form = form_48 c' (λ o low high. other_set c (40 + place) reference o (λ e. omega arith) ∙ spare_of c form o low high) (record {
        places = λ b small. subst (λ n. n ≤ 48) (sym (index_same b small)) (is.places b small);
        references = λ b small some_index.
            let before : index_of c b ≢ 0 = λ e. some_index (index_same b small ∙ e) in
            λ e. is.references b small before (sym (kept b small before) ∙ ap (λ n. c' (39 + n)) (sym (index_same b small)) ∙ e);
        apart = λ a b small small' some_index same. is.apart a b small small' (λ e. some_index (index_same a small ∙ e)) (sym (index_same a small) ∙ same ∙ index_same b small');
      });
      head = λ o less. other_set c (40 + place) reference o (λ e. omega arith);
      same = λ b. child_alike c c' b (index_same b) (kept b);
    }

pub index_adds : IndexAdds
index_adds c byte place form small within free some_reference none =
    let v = place + 1 in
    let fits : v < 256 = omega arith in
    let c' = with_word c (8 + byte / 8) (byte_set (c (8 + byte / 8)) (byte % 8) v) in
    let is = indexed_of c form in
    let here : index_of c' byte ≡ v = index_here c byte v small fits in
    let other : (b : ℕ) → b ≢ byte → index_of c' b ≡ index_of c b = index_other c byte v small fits in
    let word_kept : (i : ℕ) → i ≢ 0 → c' (39 + i) ≡ c (39 + i) = λ i some_index.
    let at : 39 + i ≡ 40 + (i - 1) = omega (arith, some_index) in ap c' at ∙ reference_kept c byte v small fits (i - 1) ∙ ap c (sym at) in
    record {
      form = form_48 c' (spare_kept c byte v small fits (spare_of c form)) (record {
        places = λ b small'. elim (cases_eq b byte) [
          | inl same ↦ let at : index_of c' b ≡ v = ap (index_of c') same ∙ here in omega arith
          | inr apart ↦ subst (λ n. n ≤ 48) (sym (other b apart)) (is.places b small')
        ];
        references = λ b small' some_index. elim (cases_eq b byte) [
          | inl same ↦
              let at : index_of c' b ≡ v = ap (index_of c') same ∙ here in
              λ e. some_reference (sym (reference_kept c byte v small fits place) ∙ ap c' (let is : 40 + place ≡ 39 + index_of c' b = omega arith in is) ∙ e)
          | inr apart ↦
              let before : index_of c b ≢ 0 = λ e. some_index (other b apart ∙ e) in
              λ e. is.references b small' before (sym (word_kept (index_of c b) before) ∙ ap (λ n. c' (39 + n)) (sym (other b apart)) ∙ e)
        ];
        apart = λ a b small_a small_b some_index same. elim (cases_eq a byte) [
          | inl a_is ↦ elim (cases_eq b byte) [
            | inl b_is ↦ a_is ∙ sym b_is
            | inr b_other ↦ absurd (free b small_b (sym (other b b_other) ∙ sym same ∙ ap (index_of c') a_is ∙ here))
          ]
          | inr a_other ↦ elim (cases_eq b byte) [
            | inl b_is ↦ absurd (free a small_a (sym (other a a_other) ∙ same ∙ ap (index_of c') b_is ∙ here))
            | inr b_other ↦ is.apart a b small_a small_b (λ e. some_index (other a a_other ∙ e)) (sym (other a a_other) ∙ same ∙ other b b_other)
          ]
        ];
      });
      head = λ o less. other_set c (8 + byte / 8) (byte_set (c (8 + byte / 8)) (byte % 8) v) o (λ e. omega arith);
      here = child_at c' byte v small here (λ e. omega arith) ∙ ap c' (let is : 39 + v ≡ 40 + place = omega arith in is) ∙ reference_kept c byte v small fits place;
      others = λ b apart. child_alike c c' b (λ small'. other b apart) (λ small' some_index. word_kept (index_of c b) some_index);
    }

pub index_moves : IndexMoves
index_moves c byte reference form small used some_reference =
    let at = 39 + index_of c byte in
    let c' = with_word c at reference in
    let is = indexed_of c form in
    let index_same : (b : ℕ) → b < 256 → index_of c' b ≡ index_of c b = λ b small'. ap (λ w. w / 256 ^ (b % 8) % 256) (other_set c at reference (8 + b / 8) (λ e. omega (arith, used))) in
    let here : c' at ≡ reference = here_set c at reference in
    let kept : (b : ℕ) → b ≢ byte → b < 256 → index_of c b ≢ 0 → c' (39 + index_of c b) ≡ c (39 + index_of c b) = λ b apart small' some_index.
    other_set c at reference (39 + index_of c b) (λ e. apart (is.apart b byte small' small some_index (omega arith))) in
    record {
      form = form_48 c' (λ o low high. other_set c at reference o (λ e. omega (arith, used)) ∙ spare_of c form o low high) (record {
        places = λ b small'. subst (λ n. n ≤ 48) (sym (index_same b small')) (is.places b small');
        references = λ b small' some_index. elim (cases_eq b byte) [
          | inl same ↦ λ e. some_reference (sym here ∙ ap (λ n. c' (39 + n)) (ap (index_of c) (sym same) ∙ sym (index_same b small')) ∙ e)
          | inr apart ↦
              let before : index_of c b ≢ 0 = λ e. some_index (index_same b small' ∙ e) in
              λ e. is.references b small' before (sym (kept b apart small' before) ∙ ap (λ n. c' (39 + n)) (sym (index_same b small')) ∙ e)
        ];
        apart = λ a b small_a small_b some_index same. is.apart a b small_a small_b (λ e. some_index (index_same a small_a ∙ e)) (sym (index_same a small_a) ∙ same ∙ index_same b small_b);
      });
      head = λ o less. other_set c at reference o (λ e. omega (arith, used));
      here = child_at c' byte (index_of c byte) small (index_same byte small) used ∙ here;
      others = λ b apart. child_alike c c' b (index_same b) (kept b apart);
    }

pub index_goes : IndexGoes
index_goes c byte form small used =
    let c' = with_word c (8 + byte / 8) (byte_set (c (8 + byte / 8)) (byte % 8) 0) in
    let is = indexed_of c form in
    let fits : 0 < 256 = omega arith in
    let here : index_of c' byte ≡ 0 = index_here c byte 0 small fits in
    let other : (b : ℕ) → b ≢ byte → index_of c' b ≡ index_of c b = index_other c byte 0 small fits in
    let some_other : (b : ℕ) → index_of c' b ≢ 0 → b ≢ byte = λ b some_index e. some_index (ap (index_of c') e ∙ here) in
    let word_kept : (i : ℕ) → i ≢ 0 → c' (39 + i) ≡ c (39 + i) = λ i some_index.
    let at : 39 + i ≡ 40 + (i - 1) = omega (arith, some_index) in ap c' at ∙ reference_kept c byte 0 small fits (i - 1) ∙ ap c (sym at) in
    record {
      form = form_48 c' (spare_kept c byte 0 small fits (spare_of c form)) (record {
        places = λ b small'. elim (cases_eq b byte) [
          | inl same ↦ let at : index_of c' b ≡ 0 = ap (index_of c') same ∙ here in omega arith
          | inr apart ↦ subst (λ n. n ≤ 48) (sym (other b apart)) (is.places b small')
        ];
        references = λ b small' some_index.
            let apart = some_other b some_index in
            let before : index_of c b ≢ 0 = λ e. some_index (other b apart ∙ e) in
            λ e. is.references b small' before (sym (word_kept (index_of c b) before) ∙ ap (λ n. c' (39 + n)) (sym (other b apart)) ∙ e);
        apart = λ a b small_a small_b some_index same.
            let a_other = some_other a some_index in
            let b_other = some_other b (λ e. some_index (same ∙ e)) in
            is.apart a b small_a small_b (λ e. some_index (other a a_other ∙ e)) (sym (other a a_other) ∙ same ∙ other b b_other);
      });
      head = λ o less. other_set c (8 + byte / 8) (byte_set (c (8 + byte / 8)) (byte % 8) 0) o (λ e. omega arith);
      here = child_none c' byte small here;
      others = λ b apart. child_alike c c' b (λ small'. other b apart) (λ small' some_index. word_kept (index_of c b) some_index);
    }

pub direct_stores : DirectStores
direct_stores c byte reference form small =
    let c' = with_word c (8 + byte) reference in
    record {
      form = record {
        spare = λ other o low high. other_set c (8 + byte) reference o (λ e. omega arith) ∙ form.spare other o low high;
        four = λ k. absurd (wrong 5 refl (inl k));
        sixteen = λ k. absurd (wrong 5 refl (inr (inl k)));
        forty_eight = λ k. absurd (wrong 5 refl (inr (inr k)));
      };
      head = λ o less. other_set c (8 + byte) reference o (λ e. omega arith);
      here = ap (λ t. cond t (c' (8 + byte)) 0) (lt-ltb byte 256 small) ∙ here_set c (8 + byte) reference;
      others = λ b apart. ap (λ w. cond (ltb b 256) w 0) (other_set c (8 + byte) reference (8 + b) (λ e. apart (omega arith)));
    }
  where
    wrong : (n : ℕ) → n ≡ 5 → (n ≡ 2) ⊎ (n ≡ 3) ⊎ (n ≡ 4) → ⊥
    wrong n is other = elim other [ inl two ↦ omega arith | inr rest ↦ elim rest [ inl three ↦ omega arith | inr four ↦ omega arith ] ]
