-- What is asked of lines and their words either holds or doesn't.
use Rattle.std.proofs.Common.{◌≡◌, ℕ, ◌<◌, ◌≤◌, ◌*◌, ◌^◌, ◌⊎◌, inl, inr, List, [], ◌∷◌, length, drop, Option, Some, None, refl, ap, arith}
use Rattle.std.proofs.lemmas.Bool.{cases_lt, cases_eq}
use Rattle.std.proofs.lemmas.List.Elements.{All-nil, All-cons, All-head, All-tail}
use Rattle.std.specs.Char.{digit_value}
use Rattle.std.specs.Prelude.{All, IsSomeAnd}
use Rattle.std.specs.Str.Parse.{AllDigits, digits_value}
use Rattle.cat_key.specs.Names.{IsName, IsNameByte}
use Rattle.cat_key.specs.declared.TheConstants.{WORDS}
use Rattle.cat_script.specs.Asks.{IsComment}
use Rattle.cat_script.specs.Lines.{words_of, IsLineByte}
use Rattle.cat_script.specs.Numbers.{IsSomeUpTo}
use Rattle.cat_script.specs.Reasons.{word_at, verb_of, HasCount, IsCallVerb, HasNumbers, HasReason}
use Rattle.cat_script.specs.declared.line.Reason.{Reason}
use Rattle.cat_script.specs.declared.line.Reason.TheVariants as reason
use Rattle.cat_script.specs.Reasons.{Verb}
use Rattle.cat_script.specs.Reasons as verb

-- It holds, or it doesn't.
abbrev pub IsDecided : Type 0 → Type 0
IsDecided P = P ⊎ ¬ P

pub both_decided : {P Q : Type 0} → IsDecided P → IsDecided Q → IsDecided (P × Q)
both_decided (inl p) (inl q) = inl (p, q)
both_decided (inl p) (inr fails) = inr (λ all. fails all.1)
both_decided (inr fails) q = inr (λ all. fails all.0)

pub not_decided : {P : Type 0} → IsDecided P → IsDecided (¬ P)
not_decided (inl p) = inr (λ fails. fails p)
not_decided (inr fails) = inl fails

-- what doesn't fail holds
pub holds_since : {P : Type 0} → IsDecided P → ¬ ¬ P → P
holds_since (inl p) never = p
holds_since (inr fails) never = absurd (never fails)

pub at_most : (a b : ℕ) → IsDecided (a ≤ b)
at_most a b = go (cases_lt b a) where
  go : (b < a) ⊎ (a ≤ b) → IsDecided (a ≤ b)
  go (inl more) = inr (λ le. omega (arith, more, le))
  go (inr le) = inl le

pub less : (a b : ℕ) → IsDecided (a < b)
less a b = go (cases_lt a b) where
  go : (a < b) ⊎ (b ≤ a) → IsDecided (a < b)
  go (inl is) = inl is
  go (inr le) = inr (λ is. omega (arith, is, le))

pub all_decided : {X : Type 0} (P : X → Type 0) → ((x : X) → IsDecided (P x)) → (xs : List X) → IsDecided (All P xs)
all_decided P each [] = inl (All-nil P)
all_decided P each (x ∷ xs) = go (each x) (all_decided P each xs) where
  go : IsDecided (P x) → IsDecided (All P xs) → IsDecided (All P (x ∷ xs))
  go (inl here) (inl behind) = inl (All-cons P x xs here behind)
  go (inl here) (inr fails) = inr (λ all. fails (All-tail P x xs all))
  go (inr fails) behind = inr (λ all. fails (All-head P x xs all))

line_byte : (byte : ℕ) → IsDecided (IsLineByte byte)
line_byte byte = go (cases_eq byte 9) (both_decided (at_most 0x20 byte) (at_most byte 0x7E)) where
  go : IsDecided (byte ≡ 9) → IsDecided ((0x20 ≤ byte) × (byte ≤ 0x7E)) → IsDecided (IsLineByte byte)
  go (inl tab) within = inl (inl tab)
  go (inr fails) (inl within) = inl (inr within)
  go (inr fails) (inr out) = inr (neither fails out)
    where
      neither : ¬ (byte ≡ 9) → ¬ ((0x20 ≤ byte) × (byte ≤ 0x7E)) → ¬ IsLineByte byte
      neither fails out (inl tab) = fails tab
      neither fails out (inr within) = out within

digits_decided : (text : List ℕ) → IsDecided (AllDigits 10 text)
digits_decided [] = inl tt
digits_decided (byte ∷ text) = both_decided (less (digit_value byte) 10) (digits_decided text)

name_decided : (text : List ℕ) → IsDecided (IsName text)
name_decided text = go (at_most 1 (length text)) (at_most (length text) (8 * WORDS)) (all_decided IsNameByte (λ byte. both_decided (at_most 0x21 byte) (at_most byte 0x7E)) text) where
  go : IsDecided (1 ≤ length text) → IsDecided (length text ≤ 8 * WORDS) → IsDecided (All IsNameByte text) → IsDecided (IsName text)
  go (inl some) (inl fits) (inl bytes) = inl (record { some = some; fits = fits; bytes = bytes })
  go (inl some) (inl fits) (inr fails) = inr (λ is. fails is.bytes)
  go (inl some) (inr fails) bytes = inr (λ is. fails is.fits)
  go (inr fails) fits bytes = inr (λ is. fails is.some)

number_decided : (most : ℕ) (text : List ℕ) → IsDecided (IsSomeUpTo most text)
number_decided most text =
    go (both_decided (less 0 (length text)) (digits_decided text)) (at_most (length text) 20) (less (digits_value 10 text) (2 ^ 64)) (at_most (digits_value 10 text) most)
  where
    go : IsDecided ((0 < length text) × AllDigits 10 text) → IsDecided (length text ≤ 20) → IsDecided (digits_value 10 text < 2 ^ 64) → IsDecided (digits_value 10 text ≤ most) → IsDecided (IsSomeUpTo most text)
    go (inl numeral) (inl short) (inl fits) (inl within) = inl (digits_value 10 text, (record { numeral = numeral; short = short; value = refl; fits = fits }, within))
    go (inl numeral) (inl short) (inl fits) (inr fails) = inr (λ is. fails (let v = is.1.0.value in let w = is.1.1 in omega arith))
    go (inl numeral) (inl short) (inr fails) within = inr (λ is. fails (let v = is.1.0.value in let w = is.1.0.fits in omega arith))
    go (inl numeral) (inr fails) fits within = inr (λ is. fails is.1.0.short)
    go (inr fails) short fits within = inr (λ is. fails is.1.0.numeral)

count_decided : (about : Verb) (count : ℕ) → IsDecided (HasCount about count)
count_decided verb.Join count = cases_eq count 1
count_decided verb.Crash count = both_decided (at_most 4 count) (at_most count 19)
count_decided verb.Updater count = cases_eq count 2
count_decided verb.Limit count = cases_eq count 2
count_decided verb.Put count = cases_eq count 4
count_decided verb.Get count = cases_eq count 3
count_decided verb.Del count = cases_eq count 3
count_decided verb.Scan count = cases_eq count 4

call_decided : (about : Verb) → IsDecided (IsCallVerb about)
call_decided verb.Join = inr (λ fails. fails)
call_decided verb.Crash = inr (λ fails. fails)
call_decided verb.Updater = inr (λ fails. fails)
call_decided verb.Limit = inr (λ fails. fails)
call_decided verb.Put = inl tt
call_decided verb.Get = inl tt
call_decided verb.Del = inl tt
call_decided verb.Scan = inl tt

numbers_decided : (words : List (List ℕ)) (about : Verb) → IsDecided (HasNumbers words about)
numbers_decided words verb.Join = inl tt
numbers_decided words verb.Crash = both_decided (number_decided (2 ^ 64) (word_at words 1)) (all_decided (IsSomeUpTo 1000000) (number_decided 1000000) (drop 2 words))
numbers_decided words verb.Updater = number_decided 100000 (word_at words 1)
numbers_decided words verb.Limit = number_decided (2 ^ 62) (word_at words 1)
numbers_decided words verb.Put = number_decided (2 ^ 64) (word_at words 3)
numbers_decided words verb.Get = inl tt
numbers_decided words verb.Del = inl tt
numbers_decided words verb.Scan = number_decided (2 ^ 64) (word_at words 3)

some_decided : (Q : Verb → Type 0) (o : Option Verb) → ((about : Verb) → IsDecided (Q about)) → IsDecided (IsSomeAnd o Q)
some_decided Q None each = inr (λ fails. fails)
some_decided Q (Some about) each = each about

none_decided : (o : Option Verb) → IsDecided (o ≡ None)
none_decided None = inl refl
none_decided (Some about) = inr (λ is. cc)

-- each reason is there or isn't
pub reason_decided : (line : List ℕ) (why : Reason) → IsDecided (HasReason line why)
reason_decided line reason.Byte = not_decided (all_decided IsLineByte line_byte line)
reason_decided line reason.Verb = none_decided (verb_of (words_of line))
reason_decided line reason.Words = some_decided (λ about. ¬ HasCount about (length (words_of line))) (verb_of (words_of line)) (λ about. not_decided (count_decided about (length (words_of line))))
reason_decided line reason.Caller =
    some_decided (λ about. IsCallVerb about × ¬ IsSomeUpTo 15 (word_at (words_of line) 0)) (verb_of (words_of line))
    (λ about. both_decided (call_decided about) (not_decided (number_decided 15 (word_at (words_of line) 0))))
reason_decided line reason.Name =
    some_decided (λ about. IsCallVerb about × ¬ IsName (word_at (words_of line) 2)) (verb_of (words_of line))
    (λ about. both_decided (call_decided about) (not_decided (name_decided (word_at (words_of line) 2))))
reason_decided line reason.Number = some_decided (λ about. ¬ HasNumbers (words_of line) about) (verb_of (words_of line)) (λ about. not_decided (numbers_decided (words_of line) about))

-- a line is a comment or none
pub comment_decided : (words : List (List ℕ)) → IsDecided (IsComment words)
comment_decided [] = inr (λ fails. fails)
comment_decided ([] ∷ words) = inr (λ is. cc)
comment_decided ((byte ∷ first) ∷ words) = go (cases_eq byte 35) where
  go : IsDecided (byte ≡ 35) → IsDecided (IsComment ((byte ∷ first) ∷ words))
  go (inl is) = inl (ap Some is)
  go (inr fails) = inr (λ is. fails cc)

-- what a line without a reason has
pub good_bytes : (line : List ℕ) → ¬ HasReason line reason.Byte → All IsLineByte line
good_bytes line fails = holds_since (all_decided IsLineByte line_byte line) fails

pub good_verb : (o : Option Verb) → ¬ (o ≡ None) → (about : Verb) × (o ≡ Some about)
good_verb None fails = absurd (fails refl)
good_verb (Some about) fails = (about, refl)

pub good_count : (about : Verb) (count : ℕ) → ¬ ¬ HasCount about count → HasCount about count
good_count about count = holds_since (count_decided about count)

pub good_caller : (about : Verb) (text : List ℕ) → ¬ (IsCallVerb about × ¬ IsSomeUpTo 15 text) → IsCallVerb about → IsSomeUpTo 15 text
good_caller about text fails call = holds_since (number_decided 15 text) (λ bad. fails (call, bad))

pub good_name : (about : Verb) (text : List ℕ) → ¬ (IsCallVerb about × ¬ IsName text) → IsCallVerb about → IsName text
good_name about text fails call = holds_since (name_decided text) (λ bad. fails (call, bad))

pub good_numbers : (words : List (List ℕ)) (about : Verb) → ¬ ¬ HasNumbers words about → HasNumbers words about
good_numbers words about = holds_since (numbers_decided words about)

-- a list is empty or not
pub empty_decided : {X : Type 0} (xs : List X) → IsDecided (xs ≡ [])
empty_decided [] = inl refl
empty_decided (x ∷ xs) = inr (λ is. cc)
