-- The words of a call that is written in the usual way.
use Rattle.std.proofs.Common.{◌≡◌, ℕ, ◌-◌, ◌<◌, ◌≤◌, ◌||◌, false, cond, eqb, List, [], ◌∷◌, ◌++◌, length, codes, All, sym, ap, ◌∙◌, arith, append_assoc}
use Rattle.std.proofs.lemmas.List.{append-nil}
use Rattle.std.proofs.lemmas.List.Elements.{All-from_get_or, All-weaker, recursion_from_All}
use Rattle.std.proofs.lemmas.Str.{digit_value_digit}
use Rattle.std.specs.List.{AllByRecursion}
use Rattle.cat_key.specs.Names.{IsName, IsNameByte}
use Rattle.cat_history.specs.declared.op.Op.{Op}
use Rattle.cat_history.specs.declared.op.Op.TheVariants.{Put, Get, Del, Scan}
use Rattle.cat_script.specs.Asks.{Says, IsLine}
use Rattle.cat_script.specs.Lines.{is_gap, words_after, words_of}
use Rattle.cat_script.specs.Numbers.{IsNumber}
use Rattle.cat_script.specs.Usual.{AreNameAndNumber, IsUsual}
use Rattle.cat_script.specs.declared.line.Line.TheVariants.{Call}
use Rattle.cat_script.proofs.LineLemmas.{differs}
use Rattle.cat_script.proofs.NumberLemmas.{digits_of_number}
use Rattle.cat_script.proofs.PlainLemmas.{said_is_line}
use Rattle.cat_script.proofs.WordLemmas.{words_after-last}

-- past the space, no byte is a gap
abbrev IsLetter : ℕ → Type 0
IsLetter byte = 33 ≤ byte

letter : (byte : ℕ) → IsLetter byte → is_gap byte ≡ false
letter byte h =
    ap (λ t. t || eqb byte 9) (differs byte 32 (λ e. omega (arith, e, h))) ∙ differs byte 9 (λ e. omega (arith, e, h))

-- letters up to a space are one word
word_ends : (done word text : List ℕ) → AllByRecursion IsLetter word → 0 < length (done ++ word) →
    words_after done (word ++ 32 ∷ text) ≡ (done ++ word) ∷ words_of text
word_ends done [] text letters some =
    ap (λ t. cond t (words_of text) (done ∷ words_of text)) (differs (length done) 0 (λ none. omega (arith, none, some, ap length (append-nil done))))
    ∙ ap (λ w. w ∷ words_of text) (sym (append-nil done))
word_ends done (b ∷ bs) text letters some =
    let rest = bs ++ 32 ∷ text in
    ap (λ t. cond t (cond (eqb (length done) 0) (words_of rest) (done ∷ words_of rest)) (words_after (done ++ b ∷ []) rest)) (letter b letters.0)
    ∙ word_ends (done ++ b ∷ []) bs text letters.1 (rw (append_assoc done (b ∷ []) bs) some)
    ∙ ap (λ w. w ∷ words_of text) (append_assoc done (b ∷ []) bs)

-- letters alone are one word
word_alone : (word : List ℕ) → All IsLetter word → 0 < length word → words_of word ≡ word ∷ []
word_alone word letters some = words_after-last [] word some (λ at within. letter _ (letters at 0 within))

name_letters : (name : List ℕ) → IsName name → All IsLetter name
name_letters name is = All-weaker IsNameByte IsLetter (λ byte h. h.0) name is.bytes

number_letters : (text : List ℕ) (n : ℕ) → IsNumber text n → All IsLetter text
number_letters text n is =
    All-from_get_or IsLetter text 0 (λ at within. let digit = digits_of_number text n at is within in omega (arith, digit))

-- a digit is a number
one_digit : (digit : ℕ) → 48 ≤ digit → digit ≤ 57 → IsNumber (digit ∷ []) (digit - 48)
one_digit digit low high =
    let worth = digit_value_digit digit (low, high) in
    record {
      numeral = (omega arith, (omega (arith, worth, high), tt));
      short = omega arith;
      value = omega (arith, worth);
      fits = omega (arith, high);
    }

-- the words behind the caller's
caller_first : (digit : ℕ) (text : List ℕ) → 48 ≤ digit → words_of (digit ∷ 32 ∷ text) ≡ (digit ∷ []) ∷ words_of text
caller_first digit text low = word_ends [] (digit ∷ []) text (omega (arith, low), tt) (omega arith)

-- the words of a name and a number
named_first : (text name : List ℕ) (n : ℕ) (both : AreNameAndNumber text name n) → words_of text ≡ name ∷ both.1.0 ∷ []
named_first text name n both =
    ap words_of both.1.2
    ∙ word_ends [] name both.1.0 (recursion_from_All IsLetter name (name_letters name both.0)) both.0.some
    ∙ ap (λ (ws : List (List ℕ)). name ∷ ws) (word_alone both.1.0 (number_letters both.1.0 n both.1.1) both.1.1.numeral.0)

says : (digit : ℕ) (text : List ℕ) (op : Op) → 48 ≤ digit → digit ≤ 57 → IsUsual text op → Says (words_of (digit ∷ text)) (Call (digit - 48) op)
says digit text (Put name value) low high usual =
    let words = ap (λ t. words_of (digit ∷ t)) usual.2
    ∙ caller_first digit (codes "put " ++ usual.0) low
    ∙ ap (λ (ws : List (List ℕ)). (digit ∷ []) ∷ codes "put" ∷ ws) (named_first usual.0 name value usual.1) in
    (digit ∷ [], (one_digit digit low high, omega (arith, high)), (usual.1.0, (usual.1.1.0, usual.1.1.1, words)))
says digit text (Get name) low high usual =
    let words = ap (λ t. words_of (digit ∷ t)) usual.1
    ∙ caller_first digit (codes "get " ++ name) low
    ∙ ap (λ (ws : List (List ℕ)). (digit ∷ []) ∷ codes "get" ∷ ws) (word_alone name (name_letters name usual.0) usual.0.some) in
    (digit ∷ [], (one_digit digit low high, omega (arith, high)), (usual.0, words))
says digit text (Del name) low high usual =
    let words = ap (λ t. words_of (digit ∷ t)) usual.1
    ∙ caller_first digit (codes "del " ++ name) low
    ∙ ap (λ (ws : List (List ℕ)). (digit ∷ []) ∷ codes "del" ∷ ws) (word_alone name (name_letters name usual.0) usual.0.some) in
    (digit ∷ [], (one_digit digit low high, omega (arith, high)), (usual.0, words))
says digit text (Scan from count) low high usual =
    let words = ap (λ t. words_of (digit ∷ t)) usual.2
    ∙ caller_first digit (codes "scan " ++ usual.0) low
    ∙ ap (λ (ws : List (List ℕ)). (digit ∷ []) ∷ codes "scan" ∷ ws) (named_first usual.0 from count usual.1) in
    (digit ∷ [], (one_digit digit low high, omega (arith, high)), (usual.1.0, (usual.1.1.0, usual.1.1.1, words)))

-- such a line asks for that call
pub usual_is_line : (line : List ℕ) (digit caller : ℕ) (text : List ℕ) (op : Op) → line ≡ digit ∷ text → 48 ≤ digit → digit ≤ 57 → caller ≡ digit - 48 →
    IsUsual text op → IsLine line (Call caller op)
usual_is_line line digit caller text op is low high number usual =
    rw (is, number) (said_is_line (digit ∷ text) (Call (digit - 48) op) (says digit text op low high usual))
