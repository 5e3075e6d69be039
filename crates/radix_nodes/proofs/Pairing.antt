-- A cell of form 4 with two children.
use Rattle.std.proofs.Common.{◌≡◌, ◌≢◌, ℕ, zero, suc, ◌+◌, ◌/◌, ◌%◌, ◌^◌, ◌<◌, ◌≤◌, ◌⊎◌, inl, inr, length, length-set, slice_index, slice_set, List, refl, sym, subst, ap, ◌∙◌, arith}
use Rattle.std.proofs.lemmas.Bool.{cases_eq}
use Rattle.pm_words.specs.Offsets.{depth_offset, prefix_offset}
use Rattle.radix_nodes.specs.declared.cell.Branch.{Branch}
use Rattle.radix_nodes.specs.Keys.{KeyWords, key_bytes, word_byte, EndsAt}
use Rattle.radix_nodes.specs.Cells.{CellWords, children, entry_byte, entry_reference, entry_of, AreEntries, IsForm, IsReference, IsLawful, prefix_words}
use Rattle.radix_nodes.specs.Changes.{with_word, IsPair}
use Rattle.radix_nodes.specs.Places.{IsHeaded}
use Rattle.radix_nodes.proofs.EntryForms.{here_set, other_set, seek_here, seek_none, entry_says, entry_some}
use Rattle.radix_nodes.proofs.CellWords.{set_words}

module _ (depth : ℕ) (prefix : KeyWords) (one two : Branch) (w : CellWords) (headed : IsHeaded depth prefix w) (apart : one.byte ≢ two.byte) (small : one.byte < 256) (small' : two.byte < 256) (sound : IsReference one.reference) (sound' : IsReference two.reference) where
  abbrev first : ℕ
  first = entry_of one.byte one.reference

  abbrev second : ℕ
  second = entry_of two.byte two.reference

  abbrev c : CellWords
  c = with_word (with_word w 4 first) 5 second

  elsewhere : (o : ℕ) → o ≢ 4 → o ≢ 5 → c o ≡ w o
  elsewhere o not_four not_five = other_set (with_word w 4 first) 5 second o not_five ∙ other_set w 4 first o not_four

  fits : one.reference < 2 ^ 32
  fits = omega (arith, sound.1)

  fits' : two.reference < 2 ^ 32
  fits' = omega (arith, sound'.1)

  says : (entry_byte first ≡ one.byte) × (entry_reference first ≡ one.reference)
  says = entry_says one.byte one.reference fits

  says' : (entry_byte second ≡ two.byte) × (entry_reference second ≡ two.reference)
  says' = entry_says two.byte two.reference fits'

  some_first : first ≢ 0
  some_first = entry_some one.byte one.reference (λ e. omega (arith, sound.0))

  some_second : second ≢ 0
  some_second = entry_some two.byte two.reference (λ e. omega (arith, sound'.0))

  at_first : c (4 + 0) ≡ first
  at_first = other_set (with_word w 4 first) 5 second 4 (λ e. four_is_not_five 4 refl e) ∙ here_set w 4 first
    where
      four_is_not_five : (n : ℕ) → n ≡ 4 → n ≡ 5 → ⊥
      four_is_not_five n a b = omega arith

  at_second : c (4 + 1) ≡ second
  at_second = here_set (with_word w 4 first) 5 second

  at_rest : (i : ℕ) → 2 ≤ i → c (4 + i) ≡ 0
  at_rest i le = elsewhere (4 + i) (λ e. omega arith) (λ e. omega arith) ∙ headed.behind (4 + i) (omega arith)

  -- which entry it is
  which : (P : ℕ → Type 0) (i : ℕ) → c (4 + i) ≢ 0 → P 0 → P 1 → P i
  which P zero some_word zeroth next = zeroth
  which P (suc zero) some_word zeroth next = next
  which P (suc (suc i)) some_word zeroth next = absurd (some_word (at_rest (suc (suc i)) (omega arith)))

  entries : AreEntries c 4 4
  entries = record {
    byte = λ i lt some_word. which (λ i. entry_byte (c (4 + i)) < 256) i some_word
        (subst (λ e. entry_byte e < 256) (sym at_first) (subst (λ b. b < 256) (sym says.0) small))
        (subst (λ e. entry_byte e < 256) (sym at_second) (subst (λ b. b < 256) (sym says'.0) small'));
    reference = λ i lt some_word. which (λ i. entry_reference (c (4 + i)) ≢ 0) i some_word
        (λ e. let z : one.reference ≡ 0 = sym says.1 ∙ ap entry_reference (sym at_first) ∙ e in omega (arith, sound.0))
        (λ e. let z : two.reference ≡ 0 = sym says'.1 ∙ ap entry_reference (sym at_second) ∙ e in omega (arith, sound'.0));
    apart = λ i j lt lt' some_i some_j. which (λ i. entry_byte (c (4 + i)) ≡ entry_byte (c (4 + j)) → i ≡ j) i some_i
        (which (λ j. entry_byte (c (4 + 0)) ≡ entry_byte (c (4 + j)) → 0 ≡ j) j some_j (λ same. refl)
        (λ same. absurd (apart (sym says.0 ∙ ap entry_byte (sym at_first) ∙ same ∙ ap entry_byte at_second ∙ says'.0))))
        (which (λ j. entry_byte (c (4 + 1)) ≡ entry_byte (c (4 + j)) → 1 ≡ j) j some_j
        (λ same. absurd (apart (sym says.0 ∙ ap entry_byte (sym at_first) ∙ sym same ∙ ap entry_byte at_second ∙ says'.0)))
        (λ same. refl));
  }

  pair_form : IsForm 2 c
  pair_form = record { spare = λ other. absurd (other refl); four = λ k. entries; sixteen = λ k. absurd (wrong 2 refl (inl k)); forty_eight = λ k. absurd (wrong 2 refl (inr k)) }
    where
      wrong : (n : ℕ) → n ≡ 2 → (n ≡ 3) ⊎ (n ≡ 4) → ⊥
      wrong n is other = elim other [ inl three ↦ omega arith | inr four ↦ omega arith ]

  has_first : children 2 c one.byte ≡ one.reference
  has_first =
      seek_here c 4 4 one.byte 0 (omega arith) ((λ e. some_first (sym at_first ∙ e)), ap entry_byte at_first ∙ says.0)
      (λ j lt fits. entries.apart j 0 lt (omega arith) fits.0 (λ e. some_first (sym at_first ∙ e)) (fits.1 ∙ sym (ap entry_byte at_first ∙ says.0)))
      ∙ ap entry_reference at_first ∙ says.1

  has_second : children 2 c two.byte ≡ two.reference
  has_second =
      seek_here c 4 4 two.byte 1 (omega arith) ((λ e. some_second (sym at_second ∙ e)), ap entry_byte at_second ∙ says'.0)
      (λ j lt fits. entries.apart j 1 lt (omega arith) fits.0 (λ e. some_second (sym at_second ∙ e)) (fits.1 ∙ sym (ap entry_byte at_second ∙ says'.0)))
      ∙ ap entry_reference at_second ∙ says'.1

  has_only : (b : ℕ) → b ≢ one.byte → b ≢ two.byte → children 2 c b ≡ 0
  has_only b not_one not_two = seek_none c 4 4 b (λ i lt fits. which (λ i. entry_byte (c (4 + i)) ≡ b → ⊥) i fits.0
      (λ is. not_one (sym is ∙ ap entry_byte at_first ∙ says.0)) (λ is. not_two (sym is ∙ ap entry_byte at_second ∙ says'.0)) fits.1)

  pair_lawful : depth < key_bytes → EndsAt depth prefix → IsLawful 2 c
  pair_lawful lt ends =
      let at_depth : c depth_offset ≡ depth = elsewhere depth_offset (λ e. not_four 0 refl e) (λ e. not_five 0 refl e) ∙ headed.depth_is in
      record {
        form = pair_form;
        depth = subst (λ d. d < key_bytes) (sym at_depth) lt;
        prefix = subst (λ d. EndsAt d (prefix_words c)) (sym at_depth) (λ at le within. ap (λ n. word_byte n (at % 8)) (head (at / 8) (omega arith)) ∙ ends at le within);
        references = λ b some_child. elim (cases_eq b one.byte) [
          | inl is ↦ subst IsReference (sym (ap (children 2 c) is ∙ has_first)) sound
          | inr not_one ↦ elim (cases_eq b two.byte) [
            | inl is ↦ subst IsReference (sym (ap (children 2 c) is ∙ has_second)) sound'
            | inr not_two ↦ absurd (some_child (has_only b not_one not_two))
          ]
        ];
        two = record {
          one = one.byte;
          two = two.byte;
          apart = apart;
          has_one = λ e. let z : one.reference ≡ 0 = sym has_first ∙ e in omega (arith, sound.0);
          has_two = λ e. let z : two.reference ≡ 0 = sym has_second ∙ e in omega (arith, sound'.0);
        };
      }
    where
      not_four : (n : ℕ) → n ≡ 0 → n ≡ 4 → ⊥
      not_four n a b = omega arith

      not_five : (n : ℕ) → n ≡ 0 → n ≡ 5 → ⊥
      not_five n a b = omega arith

      head : (k : ℕ) → k < 3 → c (prefix_offset + k) ≡ prefix k
      head k less = elsewhere (prefix_offset + k) (λ e. omega arith) (λ e. omega arith) ∙ headed.prefix_is k less

  pub pair_is : (words : List ℕ) → depth < key_bytes → slice_index words ≡ c → IsPair depth prefix one two (record { kind = 2; words = words })
  pair_is words lt path = record {
    kind = refl;
    depth_is = at depth_offset ∙ elsewhere depth_offset (λ e. not_four 0 refl e) (λ e. not_five 0 refl e) ∙ headed.depth_is;
    prefix_is = λ k less. at (prefix_offset + k) ∙ elsewhere (prefix_offset + k) (λ e. omega arith) (λ e. omega arith) ∙ headed.prefix_is k less;
    has_one = ap (λ (d : CellWords). children 2 d one.byte) path ∙ has_first;
    has_two = ap (λ (d : CellWords). children 2 d two.byte) path ∙ has_second;
    only = λ b not_one not_two. ap (λ (d : CellWords). children 2 d b) path ∙ has_only b not_one not_two;
    sound = λ ends. record {
      kind = (omega arith, omega arith);
      behind = λ o le. at o ∙ elsewhere o (λ e. omega (arith, le)) (λ e. omega (arith, le)) ∙ headed.behind o (omega (arith, le));
      lawful = subst (IsLawful 2) (sym path) (pair_lawful lt ends);
    };
  }
    where
      at : (o : ℕ) → slice_index words o ≡ c o
      at o = ap (λ (d : CellWords). d o) path

      not_four : (n : ℕ) → n ≡ 0 → n ≡ 4 → ⊥
      not_four n a b = omega arith

      not_five : (n : ℕ) → n ≡ 0 → n ≡ 5 → ⊥
      not_five n a b = omega arith

-- the two stores into the list of words
pub pair_path : (words : List ℕ) (first second : ℕ) → length words ≡ 264 → slice_index (slice_set (slice_set words 4 first) 5 second) ≡ with_word (with_word (slice_index words) 4 first) 5 second
pair_path words first second whole =
    set_words (slice_set words 4 first) 5 second (let long = length-set words 4 first in omega arith)
    ∙ ap (λ (w : CellWords). with_word w 5 second) (set_words words 4 first (omega arith))
