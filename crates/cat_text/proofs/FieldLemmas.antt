-- Lines are told by their text, and fields by the line.
use Rattle.std.proofs.Common.{◌≡◌, ℕ, ◌^◌, ◌<◌, ◌≤◌, ◌⊎◌, inl, inr, List, [], ◌∷◌, ◌++◌, length, get_or, decimal, flat_map, codes, refl, sym, ap, ◌∙◌, arith, append_assoc}
use Rattle.std.proofs.lemmas.Fmt.{decimal_is_IsNumeral}
use Rattle.std.proofs.lemmas.Str.Parse.{digit_from_value, digit_at}
use Rattle.std.proofs.lemmas.List.Elements.{recursion_from_All}
use Rattle.std.specs.List.{AllByRecursion}
use Rattle.std.specs.Str.Parse.{AllDigits}
use Rattle.cat_key.specs.Names.{IsName, IsNameByte}
use Rattle.cat_text.specs.ReportLines.{line_text}

-- a field has neither spaces nor line feeds
abbrev pub IsField : List ℕ → Type 0
IsField field = AllByRecursion (λ byte. 33 ≤ byte) field

-- a line has fields, and at least one
abbrev pub IsLine : List (List ℕ) → Type 0
IsLine [] = ⊥
IsLine (field ∷ more) = IsField field × AllByRecursion IsField more

pub all_append : {X : Type 0} (P : X → Type 0) (xs ys : List X) → AllByRecursion P xs → AllByRecursion P ys → AllByRecursion P (xs ++ ys)
all_append P [] ys a b = b
all_append P (x ∷ xs) ys a b = (a.0, all_append P xs ys a.1 b)

-- two texts, each with a byte behind it that no field has, are cut alike
pub cut : (a b : List ℕ) (s t : ℕ) (x y : List ℕ) → IsField a → IsField b → s ≤ 32 → t ≤ 32 → a ++ s ∷ x ≡ b ++ t ∷ y → (a ≡ b) × (s ≡ t) × (x ≡ y)
cut [] [] s t x y all all' low low' is = (refl, cc, cc)
cut [] (d ∷ b) s t x y all all' low low' is = let same : s ≡ d = cc in absurd (omega (arith, same, low, all'.0))
cut (c ∷ a) [] s t x y all all' low low' is = let same : c ≡ t = cc in absurd (omega (arith, same, low', all.0))
cut (c ∷ a) (d ∷ b) s t x y all all' low low' is =
    let heads : c ≡ d = cc in
    let tails : a ++ s ∷ x ≡ b ++ t ∷ y = cc in
    let rest = cut a b s t x y all.1 all'.1 low low' tails in (λ i. heads i ∷ rest.0 i, rest.1, rest.2)

-- no two bytes are one
pub apart : (m n : ℕ) → m ≡ n → (m < n) ⊎ (n < m) → ⊥
apart m n same (inl less) = omega (arith, same, less)
apart m n same (inr less) = omega (arith, same, less)

-- what follows the first field of a line
abbrev pub behind : List (List ℕ) → List ℕ → List ℕ
behind [] tail = 10 ∷ tail
behind (field ∷ more) tail = 32 ∷ (field ++ behind more tail)

pub behind_is : (more : List (List ℕ)) (tail : List ℕ) → flat_map (λ next. codes " " ++ next) more ++ (10 ∷ tail) ≡ behind more tail
behind_is [] tail = refl
behind_is (field ∷ more) tail =
    ap (λ l. 32 ∷ l) (append_assoc field (flat_map (λ next. codes " " ++ next) more) (10 ∷ tail) ∙ ap (λ l. field ++ l) (behind_is more tail))

pub line_behind : (field : List ℕ) (more : List (List ℕ)) (tail : List ℕ) → line_text (field ∷ more) ++ tail ≡ field ++ behind more tail
line_behind field more tail =
    let spaced = flat_map (λ next. codes " " ++ next) more in
    append_assoc (field ++ spaced) (codes "\n") tail ∙ append_assoc field spaced (10 ∷ tail) ∙ ap (λ l. field ++ l) (behind_is more tail)

pub fields_one : (f g : List ℕ) (fs gs : List (List ℕ)) (x y : List ℕ) → IsField f → IsField g → AllByRecursion IsField fs → AllByRecursion IsField gs →
    f ++ behind fs x ≡ g ++ behind gs y → (f ≡ g) × (fs ≡ gs) × (x ≡ y)
fields_one f g [] [] x y a b each each' is = let c = cut f g 10 10 x y a b (omega arith) (omega arith) is in (c.0, refl, c.2)
fields_one f g [] (k ∷ gs) x y a b each each' is =
    let c = cut f g 10 32 x (k ++ behind gs y) a b (omega arith) (omega arith) is in absurd (apart 10 32 c.1 (inl (omega arith)))
fields_one f g (h ∷ fs) [] x y a b each each' is =
    let c = cut f g 32 10 (h ++ behind fs x) y a b (omega arith) (omega arith) is in absurd (apart 32 10 c.1 (inr (omega arith)))
fields_one f g (h ∷ fs) (k ∷ gs) x y a b each each' is =
    let c = cut f g 32 32 (h ++ behind fs x) (k ++ behind gs y) a b (omega arith) (omega arith) is in
    let rest = fields_one h k fs gs x y each.0 each'.0 each.1 each'.1 c.2 in
    (c.0, (λ i. rest.0 i ∷ rest.1 i), rest.2)

-- a line has a byte
pub no_line : (field : List ℕ) (more : List (List ℕ)) (tail : List ℕ) → [] ≡ field ++ behind more tail → ⊥
no_line [] [] tail same = omega (arith, ap length same)
no_line [] (next ∷ more) tail same = omega (arith, ap length same)
no_line (c ∷ field) more tail same = omega (arith, ap length same)

-- a text is that of one list of lines at most
pub lines_one : (ls ms : List (List (List ℕ))) → AllByRecursion IsLine ls → AllByRecursion IsLine ms → flat_map line_text ls ≡ flat_map line_text ms → ls ≡ ms
lines_one [] [] each each' is = refl
lines_one ([] ∷ ls) ms each each' is = absurd each.0
lines_one [] ([] ∷ ms) each each' is = absurd each'.0
lines_one [] ((g ∷ gs) ∷ ms) each each' is = absurd (no_line g gs (flat_map line_text ms) (is ∙ line_behind g gs (flat_map line_text ms)))
lines_one ((f ∷ fs) ∷ ls) [] each each' is = absurd (no_line f fs (flat_map line_text ls) (sym is ∙ line_behind f fs (flat_map line_text ls)))
lines_one ((f ∷ fs) ∷ ls) ([] ∷ ms) each each' is = absurd each'.0
lines_one ((f ∷ fs) ∷ ls) ((g ∷ gs) ∷ ms) each each' is =
    let here = fields_one f g fs gs (flat_map line_text ls) (flat_map line_text ms) each.0.0 each'.0.0 each.0.1 each'.0.1
    (sym (line_behind f fs (flat_map line_text ls)) ∙ is ∙ line_behind g gs (flat_map line_text ms)) in
    let rest = lines_one ls ms each.1 each'.1 here.2 in
    λ i. (here.0 i ∷ here.1 i) ∷ rest i

-- names and numbers are fields
name_bytes : (name : List ℕ) → AllByRecursion IsNameByte name → IsField name
name_bytes [] all = tt
name_bytes (c ∷ name) all = (all.0.0, name_bytes name all.1)

pub name_is_field : (name : List ℕ) → IsName name → IsField name
name_is_field name named = name_bytes name (recursion_from_All IsNameByte name named.bytes)

digits : (ds : List ℕ) → AllDigits 10 ds → IsField ds
digits [] all = tt
digits (c ∷ ds) all = (omega (arith, digit_from_value c all.0), digits ds all.1)

pub number_is_field : (n : ℕ) → n < 2 ^ 64 → IsField (decimal n)
number_is_field n small = digits (decimal n) (decimal_is_IsNumeral n small).0.1

-- the first byte of a number is a digit
pub number_begins : (n : ℕ) → n < 2 ^ 64 → (48 ≤ get_or (decimal n) 0 0) × (get_or (decimal n) 0 0 ≤ 57)
number_begins n small =
    let numeral = (decimal_is_IsNumeral n small).0 in
    let digit = digit_at (decimal n) 0 numeral.1 numeral.0 in (omega (arith, digit), omega (arith, digit))
