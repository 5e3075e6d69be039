-- Lines by their fields, and texts by their lines.
use Rattle.std.proofs.Common.{◌≡◌, ℕ, zero, suc, ◌^◌, ◌<◌, Bool, true, false, cond, eqb, List, [], ◌∷◌, ◌++◌, length, get_or, take, drop, eq-eqb, decimal, flat_map, refl, sym, ap, subst, ◌∙◌, arith, append_assoc}
use Rattle.std.proofs.lemmas.Bool.Decides.{Decides-eqb}
use Rattle.std.proofs.lemmas.Fmt.{first_decimal, decimal_digit, decimal-digits_value, decimal_is_IsNumeral, length-decimal-le}
use Rattle.std.proofs.lemmas.Str.Parse.{numerals_by_value, tells_digits}
use Rattle.std.proofs.lemmas.List.Elements.{All-from_recursion}
use Rattle.std.proofs.lemmas.List.Splits.{slice_split_at, slice_split_none, slice_split-cons_yes, slice_split-cons_no}
use Rattle.std.specs.List.{AllByRecursion, onto_first}
use Rattle.cat_script.specs.Numbers.{IsNumber}
use Rattle.cat_text.specs.ReportLines.{line_text}
use Rattle.cat_text.proofs.FieldLemmas.{IsField, IsLine, behind, line_behind, fields_one, no_line}
use Rattle.report_reader.specs.Fields.{fields_of, fields_behind}

-- ---- numbers

leads : (n : ℕ) → n < 2 ^ 64 → 1 < length (decimal n) → get_or (decimal n) 0 0 ≡ 48 → ⊥
leads zero small long is = omega (arith, long, ap length (decimal_digit 0 (omega arith)))
leads (suc n) small long is = omega (arith, is, first_decimal (suc n) (omega arith) small)

pub no_leading_zero : (field : List ℕ) → 1 < length field → get_or field 0 0 ≡ 48 → (n : ℕ) → n < 2 ^ 64 → field ≡ decimal n → ⊥
no_leading_zero field long is n small same =
    leads n small (subst (λ (f : List ℕ). 1 < length f) same long) (subst (λ (f : List ℕ). get_or f 0 0 ≡ 48) same is)

pub plain_number : (field : List ℕ) (n : ℕ) → (get_or field 0 0 ≡ 48 → length field ≡ 1) → IsNumber field n → field ≡ decimal n
plain_number field n lead is =
    sym (decimal-digits_value (numerals_by_value _ tells_digits) field is.numeral.1 is.numeral.0 lead (omega (arith, is.value, is.fits))) ∙ ap decimal is.value

pub number_is : (n : ℕ) → n < 2 ^ 64 → IsNumber (decimal n) n
number_is n small =
    let is = decimal_is_IsNumeral n small in
    record { numeral = is.0; short = length-decimal-le 20 n (omega arith) (omega (arith, small)) small; value = is.1; fits = small }

pub short_or_long : (field : List ℕ) → 0 < length field → (1 < length field → ⊥) → length field ≡ 1
short_or_long [] some few = absurd (omega (arith, some))
short_or_long (b ∷ []) some few = refl
short_or_long (b ∷ c ∷ field) some few = absurd (few (omega arith))

-- ---- fields

differs : (a b : ℕ) → (a ≡ b → ⊥) → eqb a b ≡ false
differs a b apart = by_cases (eqb a b) refl where
  by_cases : (t : Bool) → eqb a b ≡ t → t ≡ false
  by_cases true is = absurd (apart ((Decides-eqb a b).0 is))
  by_cases false is = refl

no_space : (field : List ℕ) → IsField field → AllByRecursion (λ b. eqb b 32 ≡ false) field
no_space [] is = tt
no_space (b ∷ field) is = (differs b 32 (λ same. omega (arith, same, is.0)), no_space field is.1)

-- a line up to its first space, and without one
pub first_cut : (line : List ℕ) (end : ℕ) → end < length line → ((j : ℕ) → j < end → get_or line j 0 ≡ 32 → ⊥) → get_or line end 0 ≡ 32 →
    fields_of line ≡ take end line ∷ fields_behind (drop end line)
first_cut [] end within before here = absurd (omega (arith, within))
first_cut (b ∷ line) zero within before here = slice_split-cons_yes (λ c. eqb c 32) b line (eq-eqb b 32 here)
first_cut (b ∷ line) (suc end) within before here =
    slice_split-cons_no (λ c. eqb c 32) b line (differs b 32 (before 0 (omega arith)))
    ∙ ap (onto_first b) (first_cut line end (omega (arith, within)) (λ j less. before (suc j) (omega (arith, less))) here)

spaceless : (line : List ℕ) → ((j : ℕ) → j < length line → get_or line j 0 ≡ 32 → ⊥) → AllByRecursion (λ b. eqb b 32 ≡ false) line
spaceless [] un = tt
spaceless (b ∷ line) un = (differs b 32 (un 0 (omega arith)), spaceless line (λ j less. un (suc j) (omega (arith, less))))

pub no_cut : (line : List ℕ) → ((j : ℕ) → j < length line → get_or line j 0 ≡ 32 → ⊥) → fields_of line ≡ line ∷ []
no_cut line un = slice_split_none (λ c. eqb c 32) line (All-from_recursion (λ b. eqb b 32 ≡ false) line (spaceless line un))

-- fields with one space between them
abbrev pub joined : List (List ℕ) → List ℕ
joined [] = []
joined (field ∷ []) = field
joined (field ∷ next ∷ more) = field ++ (32 ∷ joined (next ∷ more))

pub joined_text : (field : List ℕ) (more : List (List ℕ)) (tail : List ℕ) → line_text (field ∷ more) ++ tail ≡ joined (field ∷ more) ++ 10 ∷ tail
joined_text field more tail = line_behind field more tail ∙ behind_joined field more where
  behind_joined : (field : List ℕ) (more : List (List ℕ)) → field ++ behind more tail ≡ joined (field ∷ more) ++ 10 ∷ tail
  behind_joined field [] = refl
  behind_joined field (next ∷ more) =
      ap (λ l. field ++ (32 ∷ l)) (behind_joined next more) ∙ sym (append_assoc field (32 ∷ joined (next ∷ more)) (10 ∷ tail))

pub fields_joined : (field : List ℕ) (more : List (List ℕ)) → IsField field → AllByRecursion IsField more → fields_of (joined (field ∷ more)) ≡ field ∷ more
fields_joined field [] is each = slice_split_none (λ b. eqb b 32) field (All-from_recursion (λ b. eqb b 32 ≡ false) field (no_space field is))
fields_joined field (next ∷ more) is each =
    slice_split_at (λ b. eqb b 32) field 32 (joined (next ∷ more)) (All-from_recursion (λ b. eqb b 32 ≡ false) field (no_space field is)) refl
    ∙ ap (λ l. field ∷ l) (fields_joined next more each.0 each.1)

-- a line is told by its fields, whatever its bytes are
onto_text : (b : ℕ) (fields : List (List ℕ)) (t : Bool) → eqb b 32 ≡ t → (field : List ℕ) (more : List (List ℕ)) → fields ≡ field ∷ more →
    ((first : List ℕ) × (rest : List (List ℕ)) × (cond t ([] ∷ fields) (onto_first b fields) ≡ first ∷ rest) × (line_text (first ∷ rest) ≡ b ∷ line_text (field ∷ more)))
onto_text b fields true is field more same = (
  [],
  fields,
  refl,
  subst (λ (fs : List (List ℕ)). line_text ([] ∷ fs) ≡ b ∷ line_text (field ∷ more)) (sym same)
      (ap (λ (c : ℕ). c ∷ line_text (field ∷ more)) (sym ((Decides-eqb b 32).0 is))),
)
onto_text b fields false is field more same = (b ∷ field, more, ap (onto_first b) same, refl)

some_fields : (line : List ℕ) → (first : List ℕ) × (rest : List (List ℕ)) × (fields_of line ≡ first ∷ rest) × (line_text (first ∷ rest) ≡ line ++ 10 ∷ [])
some_fields [] = ([], [], refl, refl)
some_fields (b ∷ line) =
    let before = some_fields line in
    let here = onto_text b (fields_of line) (eqb b 32) refl before.0 before.1 before.2 in
    (here.0, here.1, here.2, here.3 ∙ ap (λ l. b ∷ l) before.3)

pub fields_text : (line : List ℕ) → line_text (fields_of line) ≡ line ++ 10 ∷ []
fields_text line = let some = some_fields line in ap line_text some.2 ∙ some.3

-- ---- lines

-- no line feed
abbrev pub NoFeed : List ℕ → Type 0
NoFeed line = AllByRecursion (λ b. b ≡ 10 → ⊥) line

no_feed_in : (field : List ℕ) (more : List (List ℕ)) → IsField field → AllByRecursion IsField more → NoFeed (joined (field ∷ more))
no_feed_in [] [] is each = tt
no_feed_in (b ∷ field) [] is each = ((λ same. omega (arith, same, is.0)), no_feed_in field [] is.1 each)
no_feed_in [] (next ∷ more) is each = ((λ same. omega (arith, same)), no_feed_in next more each.0 each.1)
no_feed_in (b ∷ field) (next ∷ more) is each = ((λ same. omega (arith, same, is.0)), no_feed_in field (next ∷ more) is.1 each)

-- two texts are cut alike at their first line feeds
pub cut_feed : (a b x y : List ℕ) → NoFeed a → NoFeed b → a ++ 10 ∷ x ≡ b ++ 10 ∷ y → (a ≡ b) × (x ≡ y)
cut_feed [] [] x y un un' same = (refl, cc)
cut_feed [] (d ∷ b) x y un un' same = let here : d ≡ 10 = cc in absurd (un'.0 here)
cut_feed (c ∷ a) [] x y un un' same = let here : c ≡ 10 = cc in absurd (un.0 here)
cut_feed (c ∷ a) (d ∷ b) x y un un' same =
    let heads : c ≡ d = cc in
    let tails : a ++ 10 ∷ x ≡ b ++ 10 ∷ y = cc in
    let rest = cut_feed a b x y un.1 un'.1 tails in ((λ i. heads i ∷ rest.0 i), rest.1)

pub no_feed_there : (a x y : List ℕ) → NoFeed y → a ++ 10 ∷ x ≡ y → ⊥
no_feed_there a x [] un same = no_there a same where
  no_there : (a : List ℕ) → a ++ 10 ∷ x ≡ [] → ⊥
  no_there [] same = omega (arith, ap length same)
  no_there (c ∷ a) same = omega (arith, ap length same)
no_feed_there [] x (d ∷ y) un same = let here : d ≡ 10 = cc in un.0 here
no_feed_there (c ∷ a) x (d ∷ y) un same = let tails : a ++ 10 ∷ x ≡ y = cc in no_feed_there a x y un.1 tails

abbrev pub Lines : Type 0
Lines = List (List (List ℕ))

-- lines whose text begins with that of other lines begin with those
pub begin_lines : (ds ls : Lines) (x : List ℕ) → AllByRecursion IsLine ds → AllByRecursion IsLine ls → flat_map line_text ls ≡ flat_map line_text ds ++ x →
    (more : Lines) × (ls ≡ ds ++ more) × (flat_map line_text more ≡ x) × AllByRecursion IsLine more
begin_lines [] ls x each each' same = (ls, refl, same, each')
begin_lines ([] ∷ ds) ls x each each' same = absurd each.0
begin_lines ((f ∷ fs) ∷ ds) [] x each each' same =
    absurd (no_line f fs (flat_map line_text ds ++ x) (same ∙ append_assoc (line_text (f ∷ fs)) (flat_map line_text ds) x ∙ line_behind f fs (flat_map line_text ds ++ x)))
begin_lines ((f ∷ fs) ∷ ds) ([] ∷ ls) x each each' same = absurd each'.0
begin_lines ((f ∷ fs) ∷ ds) ((g ∷ gs) ∷ ls) x each each' same =
    let here = fields_one g f gs fs (flat_map line_text ls) (flat_map line_text ds ++ x) each'.0.0 each.0.0 each'.0.1 each.0.1
    (sym (line_behind g gs (flat_map line_text ls)) ∙ same ∙ append_assoc (line_text (f ∷ fs)) (flat_map line_text ds) x ∙ line_behind f fs (flat_map line_text ds ++ x)) in
    let rest = begin_lines ds ls x each.1 each'.1 here.2 in
    (rest.0, (λ i. (here.0 i ∷ here.1 i) ∷ rest.1 i), rest.2, rest.3)

-- the first of lines whose text begins with a line has the line's fields
pub first_line : (ls : Lines) (line tail : List ℕ) → AllByRecursion IsLine ls → NoFeed line → flat_map line_text ls ≡ line ++ 10 ∷ tail →
    (more : Lines) × (ls ≡ fields_of line ∷ more)
first_line [] line tail each un same = absurd (no_feed_there line tail [] tt (sym same))
first_line ([] ∷ ls) line tail each un same = absurd each.0
first_line ((f ∷ fs) ∷ ls) line tail each un same =
    let here = cut_feed (joined (f ∷ fs)) line (flat_map line_text ls) tail (no_feed_in f fs each.0.0 each.0.1) un (sym (joined_text f fs (flat_map line_text ls)) ∙ same) in
    (ls, ap (λ (l : List (List ℕ)). l ∷ ls) (sym (fields_joined f fs each.0.0 each.0.1) ∙ ap fields_of here.0))

-- lines whose text has no line feed are none
pub no_lines : (ls : Lines) (text : List ℕ) → AllByRecursion IsLine ls → NoFeed text → flat_map line_text ls ≡ text → (ls ≡ []) × (text ≡ [])
no_lines [] text each un same = (refl, sym same)
no_lines ([] ∷ ls) text each un same = absurd each.0
no_lines ((f ∷ fs) ∷ ls) text each un same =
    absurd (no_feed_there (joined (f ∷ fs)) (flat_map line_text ls) text un (sym (joined_text f fs (flat_map line_text ls)) ∙ same))
