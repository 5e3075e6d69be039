-- A line that says something has no byte but those that a line may have.
use Rattle.std.proofs.Common.{◌≡◌, ℕ, eqb, ltb, ◌||◌, ◌&&◌, ◌⊎◌, inl, inr, Bool, true, false, cond, List, [], ◌∷◌, ◌++◌, length, codes, All, refl, sym, ap, subst, arith, append_assoc}
use Rattle.std.proofs.lemmas.Bool.{false≢true}
use Rattle.std.proofs.lemmas.Bool.Decides.{Decides-eqb, Decides-ltb}
use Rattle.std.proofs.lemmas.List.{append-nil}
use Rattle.std.proofs.lemmas.List.Elements.{All-append, All-cons, All-from_recursion, All-head, All-nil, All-tail, recursion_from_All}
use Rattle.std.proofs.lemmas.Str.Parse.{digit_from_value}
use Rattle.std.specs.List.{AllZip}
use Rattle.std.specs.Str.Parse.{AllDigits}
use Rattle.cat_key.specs.Names.{IsName}
use Rattle.cat_history.specs.declared.op.Op.{Op}
use Rattle.cat_history.specs.declared.op.Op.TheVariants.{Put, Get, Del, Scan}
use Rattle.cat_script.specs.Asks.{AsksFor, Says, IsLine}
use Rattle.cat_script.specs.Lines.{is_gap, words_after, words_of, IsLineByte}
use Rattle.cat_script.specs.Numbers.{IsNumber, IsUpTo}
use Rattle.cat_script.specs.declared.line.Line.{Line}
use Rattle.cat_script.specs.declared.line.Line.TheVariants.{Blank, Call, Join, Crash, Updater, Limit}
use Rattle.cat_script.proofs.LineLemmas.{differs}

abbrev IsPlain : List ℕ → Type 0
IsPlain = All IsLineByte

gap_is_plain : (byte : ℕ) → is_gap byte ≡ true → IsLineByte byte
gap_is_plain byte gap = by_cases (eqb byte 32) (eqb byte 9) refl refl gap where
  by_cases : (space tab : Bool) → eqb byte 32 ≡ space → eqb byte 9 ≡ tab → (space || tab) ≡ true → IsLineByte byte
  by_cases true tab is is' some = let here = (Decides-eqb byte 32).0 is in inr (omega (arith, here), omega (arith, here))
  by_cases false true is is' some = inl ((Decides-eqb byte 9).0 is')
  by_cases false false is is' some = absurd (false≢true some)

-- a word of some bytes is one of the words
with_word : (c : ℕ) (cs : List ℕ) (without behind : List (List ℕ)) → All IsPlain (cond (eqb (length (c ∷ cs)) 0) without ((c ∷ cs) ∷ behind)) →
    All IsPlain ((c ∷ cs) ∷ behind)
with_word c cs without behind all =
    subst (All IsPlain) (ap (λ t. cond t without ((c ∷ cs) ∷ behind)) (differs (length (c ∷ cs)) 0 (λ e. omega (arith, e)))) all

-- the bytes of a line are gaps, or stand in its words
words_are_plain : (word line : List ℕ) → All IsPlain (words_after word line) → IsPlain (word ++ line)
words_are_plain [] [] all = All-nil IsLineByte
words_are_plain (c ∷ cs) [] all = subst IsPlain (sym (append-nil (c ∷ cs))) (All-head IsPlain (c ∷ cs) [] (with_word c cs [] [] all))
words_are_plain word (b ∷ bs) all = by_gap word (is_gap b) refl (words_are_plain [] bs) (words_are_plain (word ++ b ∷ []) bs) all where
  by_gap : (word : List ℕ) (gap : Bool) → is_gap b ≡ gap → (All IsPlain (words_after [] bs) → IsPlain bs)
      → (All IsPlain (words_after (word ++ b ∷ []) bs) → IsPlain ((word ++ b ∷ []) ++ bs))
      → All IsPlain (cond gap (cond (eqb (length word) 0) (words_after [] bs) (word ∷ words_after [] bs)) (words_after (word ++ b ∷ []) bs))
      → IsPlain (word ++ b ∷ bs)
  by_gap [] true is behind longer all = All-cons IsLineByte b bs (gap_is_plain b is) (behind all)
  by_gap (c ∷ cs) true is behind longer all =
      let word = with_word c cs (words_after [] bs) (words_after [] bs) all in
      All-append IsLineByte (c ∷ cs) (b ∷ bs) (All-head IsPlain (c ∷ cs) (words_after [] bs) word)
      (All-cons IsLineByte b bs (gap_is_plain b is) (behind (All-tail IsPlain (c ∷ cs) (words_after [] bs) word)))
  by_gap word false is behind longer all = subst IsPlain (append_assoc word (b ∷ []) bs) (longer all)

name_is_plain : (name : List ℕ) → IsName name → IsPlain name
name_is_plain name h at d within = let byte = h.bytes at d within in inr (omega (arith, byte), omega (arith, byte))

digits_are_plain : (text : List ℕ) → AllDigits 10 text → IsPlain text
digits_are_plain [] all = All-nil IsLineByte
digits_are_plain (c ∷ cs) all =
    let digit = digit_from_value c all.0 in
    All-cons IsLineByte c cs (inr (omega (arith, digit), omega (arith, digit))) (digits_are_plain cs all.1)

number_is_plain : (text : List ℕ) (n : ℕ) → IsNumber text n → IsPlain text
number_is_plain text n h = digits_are_plain text h.numeral.1

budgets_are_plain : (most : ℕ) (texts : List (List ℕ)) (numbers : List ℕ) → AllZip (IsUpTo most) texts numbers → All IsPlain texts
budgets_are_plain most [] [] all = All-nil IsPlain
budgets_are_plain most [] (n ∷ numbers) all = absurd all
budgets_are_plain most (t ∷ texts) [] all = absurd all
budgets_are_plain most (t ∷ texts) (n ∷ numbers) all =
    All-cons IsPlain t texts (number_is_plain t n all.0.0) (budgets_are_plain most texts numbers all.1)

-- each of these bytes is printable
abbrev are_printable : List ℕ → Bool
are_printable [] = true
are_printable (byte ∷ bytes) = (ltb 31 byte && ltb byte 127) && are_printable bytes

printable_are_plain : (text : List ℕ) → are_printable text ≡ true → IsPlain text
printable_are_plain [] are = All-nil IsLineByte
printable_are_plain (b ∷ bs) are = by_cases (ltb 31 b) (ltb b 127) refl refl (printable_are_plain bs) are where
  by_cases : (low high : Bool) → ltb 31 b ≡ low → ltb b 127 ≡ high → (are_printable bs ≡ true → IsPlain bs)
      → ((low && high) && are_printable bs) ≡ true → IsPlain (b ∷ bs)
  by_cases true true is is' behind rest =
      let least = (Decides-ltb 31 b).0 is in
      let most = (Decides-ltb b 127).0 is' in
      All-cons IsLineByte b bs (inr (omega (arith, least), omega (arith, most))) (behind rest)
  by_cases true false is is' behind rest = absurd (false≢true rest)
  by_cases false high is is' behind rest = absurd (false≢true rest)

call_is_plain : (words : List (List ℕ)) (caller : List ℕ) (n : ℕ) (op : Op) → IsUpTo 15 caller n → AsksFor words caller op → All IsPlain words
call_is_plain words caller n (Put name value) is asks = subst (All IsPlain) (sym asks.1.2) (All-from_recursion IsPlain (caller ∷ codes "put" ∷ name ∷ asks.1.0 ∷ [])
    (number_is_plain caller n is.0, (printable_are_plain (codes "put") refl, (name_is_plain name asks.0, (number_is_plain asks.1.0 value asks.1.1, tt)))))
call_is_plain words caller n (Get name) is asks = subst (All IsPlain) (sym asks.1) (All-from_recursion IsPlain (caller ∷ codes "get" ∷ name ∷ [])
    (number_is_plain caller n is.0, (printable_are_plain (codes "get") refl, (name_is_plain name asks.0, tt))))
call_is_plain words caller n (Del name) is asks = subst (All IsPlain) (sym asks.1) (All-from_recursion IsPlain (caller ∷ codes "del" ∷ name ∷ [])
    (number_is_plain caller n is.0, (printable_are_plain (codes "del") refl, (name_is_plain name asks.0, tt))))
call_is_plain words caller n (Scan from count) is asks = subst (All IsPlain) (sym asks.1.2) (All-from_recursion IsPlain (caller ∷ codes "scan" ∷ from ∷ asks.1.0 ∷ [])
    (number_is_plain caller n is.0, (printable_are_plain (codes "scan") refl, (name_is_plain from asks.0, (number_is_plain asks.1.0 count asks.1.1, tt)))))

said_is_plain : (words : List (List ℕ)) (said : Line) → Says words said → (said ≡ Blank) ⊎ All IsPlain words
said_is_plain words Blank says = inl refl
said_is_plain words (Call caller op) says = inr (call_is_plain words says.0 caller op says.1 says.2)
said_is_plain words Join says = inr (subst (All IsPlain) (sym says) (All-from_recursion IsPlain (codes "join" ∷ []) (printable_are_plain (codes "join") refl, tt)))
said_is_plain words (Crash plan) says =
    let budgets = budgets_are_plain 1000000 says.1 (plan.budgets ++ plan.updater_budget ∷ []) says.3 in
    inr (subst (All IsPlain) (sym says.6) (All-from_recursion IsPlain (codes "crash" ∷ says.0 ∷ says.1)
    (printable_are_plain (codes "crash") refl, (number_is_plain says.0 plan.seed says.2, recursion_from_All IsPlain says.1 budgets))))
said_is_plain words (Updater turns) says = inr (subst (All IsPlain) (sym says.2) (All-from_recursion IsPlain (codes "updater" ∷ says.0 ∷ [])
    (printable_are_plain (codes "updater") refl, (number_is_plain says.0 turns says.1.0, tt))))
said_is_plain words (Limit limit) says = inr (subst (All IsPlain) (sym says.2) (All-from_recursion IsPlain (codes "limit" ∷ says.0 ∷ [])
    (printable_are_plain (codes "limit") refl, (number_is_plain says.0 limit says.1.0, tt))))

-- words that ask something are those of a line that asks it
pub said_is_line : (line : List ℕ) (said : Line) → Says (words_of line) said → IsLine line said
said_is_line line said says = (says, by_cases (said_is_plain (words_of line) said says)) where
  by_cases : (said ≡ Blank) ⊎ All IsPlain (words_of line) → (said ≡ Blank) ⊎ IsPlain line
  by_cases (inl blank) = inl blank
  by_cases (inr plain) = inr (words_are_plain [] line plain)
