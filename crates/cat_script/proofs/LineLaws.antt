-- A line asks one thing, and has no reason where it asks something.
use Rattle.std.proofs.Common.{◌≡◌, ℕ, zero, suc, ◌<◌, ◌≤◌, ◌^◌, ◌⊎◌, inl, inr, Bool, true, false, List, [], ◌∷◌, ◌++◌, length, get_or, drop, codes, Some, None, refl, sym, ap, subst, ◌∙◌, arith}
use Rattle.std.proofs.lemmas.List.{length_push}
use Rattle.std.proofs.lemmas.List.Elements.{All-from_recursion}
use Rattle.std.proofs.lemmas.Slice.Eq.{bytes_eq-Decides}
use Rattle.std.proofs.lemmas.Slice.Zip.{AllZip-long}
use Rattle.std.specs.List.{AllZip, AllByRecursion}
use Rattle.std.specs.Option.{option_or}
use Rattle.std.specs.Prelude.{All, IsSomeAnd}
use Rattle.std.specs.Str.{bytes_eq}
use Rattle.cat_key.specs.Names.{IsName}
use Rattle.cat_history.specs.declared.op.Op.{Op}
use Rattle.cat_history.specs.declared.op.Op.TheVariants.{Put, Get, Del, Scan}
use Rattle.cat_script.specs.Asks.{IsComment, AsksFor, Says, IsLine}
use Rattle.cat_script.specs.Lines.{words_of, IsLineByte}
use Rattle.cat_script.specs.Numbers.{IsNumber, IsUpTo, IsSomeUpTo}
use Rattle.cat_script.specs.Reasons.{setting_verb, call_verb, word_at, verb_of, HasCount, IsCallVerb, HasNumbers, WordsHave, HasReason, rank_of, IsFirstReason}
use Rattle.cat_script.specs.declared.line.Line.{Line}
use Rattle.cat_script.specs.declared.line.Line.TheVariants.{Blank, Call, Join, Crash, Updater, Limit}
use Rattle.cat_script.specs.declared.line.Reason.{Reason}
use Rattle.cat_script.specs.declared.line.Reason.TheVariants as reason
use Rattle.cat_script.specs.Reasons.{Verb}
use Rattle.cat_script.specs.Reasons as verb
use Rattle.cat_script.proofs.NumberLemmas.{digits_of_number}

-- The first byte of the words that ask this.
HasFirst : Line → ℕ → Type 0
HasFirst Blank byte = (byte ≡ 0) ⊎ (byte ≡ 35)
HasFirst (Call caller op) byte = (48 ≤ byte) × (byte ≤ 57)
HasFirst Join byte = byte ≡ 106
HasFirst (Crash plan) byte = byte ≡ 99
HasFirst (Updater turns) byte = byte ≡ 117
HasFirst (Limit limit) byte = byte ≡ 108

abbrev first_byte : List (List ℕ) → ℕ
first_byte words = get_or (word_at words 0) 0 0

abbrev second_byte : List (List ℕ) → ℕ
second_byte words = get_or (word_at words 1) 0 0

-- a number begins with a digit
first_digit : (text : List ℕ) (n : ℕ) → IsNumber text n → (48 ≤ get_or text 0 0) × (get_or text 0 0 ≤ 57)
first_digit text n is = digits_of_number text n 0 is is.numeral.0

comment_first : (words : List (List ℕ)) → IsComment words → first_byte words ≡ 35
comment_first [] is = absurd is
comment_first ([] ∷ words) is = cc
comment_first ((byte ∷ first) ∷ words) is = cc

asks_first : (words : List (List ℕ)) (caller : List ℕ) (op : Op) → AsksFor words caller op → word_at words 0 ≡ caller
asks_first words caller (Put name value) asks = ap (λ ws. word_at ws 0) asks.1.2
asks_first words caller (Get name) asks = ap (λ ws. word_at ws 0) asks.1
asks_first words caller (Del name) asks = ap (λ ws. word_at ws 0) asks.1
asks_first words caller (Scan from count) asks = ap (λ ws. word_at ws 0) asks.1.2

-- The first byte of the word of an op.
abbrev op_byte : Op → ℕ
op_byte (Put name value) = 112
op_byte (Get name) = 103
op_byte (Del name) = 100
op_byte (Scan from count) = 115

asks_second : (words : List (List ℕ)) (caller : List ℕ) (op : Op) → AsksFor words caller op → second_byte words ≡ op_byte op
asks_second words caller (Put name value) asks = ap second_byte asks.1.2
asks_second words caller (Get name) asks = ap second_byte asks.1
asks_second words caller (Del name) asks = ap second_byte asks.1
asks_second words caller (Scan from count) asks = ap second_byte asks.1.2

first_has : (words : List (List ℕ)) (said : Line) → Says words said → HasFirst said (first_byte words)
unfolding HasFirst
first_has words Blank (inl none) = inl (ap first_byte none)
first_has words Blank (inr comment) = inr (comment_first words comment)
first_has words (Call caller op) says = subst (λ text. (48 ≤ get_or text 0 0) × (get_or text 0 0 ≤ 57)) (sym (asks_first words says.0 op says.2)) (first_digit says.0 caller says.1.0)
first_has words Join says = ap first_byte says
first_has words (Crash plan) says = ap first_byte says.6
first_has words (Updater turns) says = ap first_byte says.2
first_has words (Limit limit) says = ap first_byte says.2

-- texts of numbers tell the numbers
number_one : (a b : List ℕ) (m n : ℕ) → a ≡ b → IsNumber a m → IsNumber b n → m ≡ n
number_one a b m n same is is' = let v = is.value in let v' = is'.value in cc

op_one : (words : List (List ℕ)) (c c' : List ℕ) (a b : Op) → AsksFor words c a → AsksFor words c' b → op_byte a ≡ op_byte b → a ≡ b
op_one words c c' (Put name value) (Put name' value') asks asks' same =
    let all = sym asks.1.2 ∙ asks'.1.2 in
    let names = ap (λ ws. word_at ws 2) all in
    let values = number_one asks.1.0 asks'.1.0 value value' (ap (λ ws. word_at ws 3) all) asks.1.1 asks'.1.1 in
    λ i. Put (names i) (values i)
op_one words c c' (Get name) (Get name') asks asks' same = ap Get (ap (λ ws. word_at ws 2) (sym asks.1 ∙ asks'.1))
op_one words c c' (Del name) (Del name') asks asks' same = ap Del (ap (λ ws. word_at ws 2) (sym asks.1 ∙ asks'.1))
op_one words c c' (Scan from count) (Scan from' count') asks asks' same =
    let all = sym asks.1.2 ∙ asks'.1.2 in
    let names = ap (λ ws. word_at ws 2) all in
    let counts = number_one asks.1.0 asks'.1.0 count count' (ap (λ ws. word_at ws 3) all) asks.1.1 asks'.1.1 in
    λ i. Scan (names i) (counts i)
op_one words c c' (Put name value) (Get name') asks asks' same = absurd (omega (arith, same))
op_one words c c' (Put name value) (Del name') asks asks' same = absurd (omega (arith, same))
op_one words c c' (Put name value) (Scan from' count') asks asks' same = absurd (omega (arith, same))
op_one words c c' (Get name) (Put name' value') asks asks' same = absurd (omega (arith, same))
op_one words c c' (Get name) (Del name') asks asks' same = absurd (omega (arith, same))
op_one words c c' (Get name) (Scan from' count') asks asks' same = absurd (omega (arith, same))
op_one words c c' (Del name) (Put name' value') asks asks' same = absurd (omega (arith, same))
op_one words c c' (Del name) (Get name') asks asks' same = absurd (omega (arith, same))
op_one words c c' (Del name) (Scan from' count') asks asks' same = absurd (omega (arith, same))
op_one words c c' (Scan from count) (Put name' value') asks asks' same = absurd (omega (arith, same))
op_one words c c' (Scan from count) (Get name') asks asks' same = absurd (omega (arith, same))
op_one words c c' (Scan from count) (Del name') asks asks' same = absurd (omega (arith, same))

-- budgets that the same words write
budgets_one : (most : ℕ) (words : List (List ℕ)) (a b : List ℕ) → AllZip (IsUpTo most) words a → AllZip (IsUpTo most) words b → a ≡ b
budgets_one most [] [] [] all all' = refl
budgets_one most [] (x ∷ a) b all all' = absurd all
budgets_one most [] [] (y ∷ b) all all' = absurd all'
budgets_one most (word ∷ words) [] b all all' = absurd all
budgets_one most (word ∷ words) (x ∷ a) [] all all' = absurd all'
budgets_one most (word ∷ words) (x ∷ a) (y ∷ b) all all' =
    let heads = number_one word word x y refl all.0.0 all'.0.0 in
    let tails = budgets_one most words a b all.1 all'.1 in
    λ i. heads i ∷ tails i

-- a list and its last item
last_one : (a b : List ℕ) (x y : ℕ) → a ++ x ∷ [] ≡ b ++ y ∷ [] → (a ≡ b) × (x ≡ y)
last_one [] [] x y is = (refl, cc)
last_one [] (b ∷ bs) x y is = absurd (omega (arith, ap length is, length_push bs y))
last_one (a ∷ as') [] x y is = absurd (omega (arith, ap length is, length_push as' x))
last_one (a ∷ as') (b ∷ bs) x y is =
    let heads : a ≡ b = cc in
    let tails : as' ++ x ∷ [] ≡ bs ++ y ∷ [] = cc in
    let rest = last_one as' bs x y tails in (λ i. heads i ∷ rest.0 i, rest.1)

-- words ask one thing
says_one : (words : List (List ℕ)) (byte : ℕ) (a b : Line) → HasFirst a byte → HasFirst b byte → Says words a → Says words b → a ≡ b
unfolding HasFirst
says_one words byte Blank Blank has has' says says' = refl
says_one words byte (Call caller op) (Call caller' op') has has' says says' =
    let texts = sym (asks_first words says.0 op says.2) ∙ asks_first words says'.0 op' says'.2 in
    let callers = number_one says.0 says'.0 caller caller' texts says.1.0 says'.1.0 in
    let ops = op_one words says.0 says'.0 op op' says.2 says'.2 (sym (asks_second words says.0 op says.2) ∙ asks_second words says'.0 op' says'.2) in
    λ i. Call (callers i) (ops i)
says_one words byte Join Join has has' says says' = refl
says_one words byte (Crash plan) (Crash plan') has has' says says' =
    let all = sym says.6 ∙ says'.6 in
    let seeds = number_one says.0 says'.0 plan.seed plan'.seed (ap (λ ws. word_at ws 1) all) says.2 says'.2 in
    let texts : says.1 ≡ says'.1 = ap (drop 2) all in
    let budgets = budgets_one 1000000 says'.1 (plan.budgets ++ plan.updater_budget ∷ []) (plan'.budgets ++ plan'.updater_budget ∷ [])
    (subst (λ ws. AllZip (IsUpTo 1000000) ws (plan.budgets ++ plan.updater_budget ∷ [])) texts says.3) says'.3 in
    let parts = last_one plan.budgets plan'.budgets plan.updater_budget plan'.updater_budget budgets in
    λ i. Crash (record { seed = seeds i; budgets = parts.0 i; updater_budget = parts.1 i })
says_one words byte (Updater turns) (Updater turns') has has' says says' =
    ap Updater (number_one says.0 says'.0 turns turns' (ap (λ ws. word_at ws 1) (sym says.2 ∙ says'.2)) says.1.0 says'.1.0)
says_one words byte (Limit limit) (Limit limit') has has' says says' =
    ap Limit (number_one says.0 says'.0 limit limit' (ap (λ ws. word_at ws 1) (sym says.2 ∙ says'.2)) says.1.0 says'.1.0)
says_one words byte Blank (Call caller' op') has has' says says' = absurd (omega (arith, has, has'))
says_one words byte Blank Join has has' says says' = absurd (omega (arith, has, has'))
says_one words byte Blank (Crash plan') has has' says says' = absurd (omega (arith, has, has'))
says_one words byte Blank (Updater turns') has has' says says' = absurd (omega (arith, has, has'))
says_one words byte Blank (Limit limit') has has' says says' = absurd (omega (arith, has, has'))
says_one words byte (Call caller op) Blank has has' says says' = absurd (omega (arith, has, has'))
says_one words byte (Call caller op) Join has has' says says' = absurd (omega (arith, has, has'))
says_one words byte (Call caller op) (Crash plan') has has' says says' = absurd (omega (arith, has, has'))
says_one words byte (Call caller op) (Updater turns') has has' says says' = absurd (omega (arith, has, has'))
says_one words byte (Call caller op) (Limit limit') has has' says says' = absurd (omega (arith, has, has'))
says_one words byte Join Blank has has' says says' = absurd (omega (arith, has, has'))
says_one words byte Join (Call caller' op') has has' says says' = absurd (omega (arith, has, has'))
says_one words byte Join (Crash plan') has has' says says' = absurd (omega (arith, has, has'))
says_one words byte Join (Updater turns') has has' says says' = absurd (omega (arith, has, has'))
says_one words byte Join (Limit limit') has has' says says' = absurd (omega (arith, has, has'))
says_one words byte (Crash plan) Blank has has' says says' = absurd (omega (arith, has, has'))
says_one words byte (Crash plan) (Call caller' op') has has' says says' = absurd (omega (arith, has, has'))
says_one words byte (Crash plan) Join has has' says says' = absurd (omega (arith, has, has'))
says_one words byte (Crash plan) (Updater turns') has has' says says' = absurd (omega (arith, has, has'))
says_one words byte (Crash plan) (Limit limit') has has' says says' = absurd (omega (arith, has, has'))
says_one words byte (Updater turns) Blank has has' says says' = absurd (omega (arith, has, has'))
says_one words byte (Updater turns) (Call caller' op') has has' says says' = absurd (omega (arith, has, has'))
says_one words byte (Updater turns) Join has has' says says' = absurd (omega (arith, has, has'))
says_one words byte (Updater turns) (Crash plan') has has' says says' = absurd (omega (arith, has, has'))
says_one words byte (Updater turns) (Limit limit') has has' says says' = absurd (omega (arith, has, has'))
says_one words byte (Limit limit) Blank has has' says says' = absurd (omega (arith, has, has'))
says_one words byte (Limit limit) (Call caller' op') has has' says says' = absurd (omega (arith, has, has'))
says_one words byte (Limit limit) Join has has' says says' = absurd (omega (arith, has, has'))
says_one words byte (Limit limit) (Crash plan') has has' says says' = absurd (omega (arith, has, has'))
says_one words byte (Limit limit) (Updater turns') has has' says says' = absurd (omega (arith, has, has'))

pub line_one : (line : List ℕ) (a b : Line) → IsLine line a → IsLine line b → a ≡ b
line_one line a b is is' =
    says_one (words_of line) (first_byte (words_of line)) a b (first_has (words_of line) a is.0) (first_has (words_of line) b is'.0) is.0 is'.0

-- Words without a reason.
record Good (words : List (List ℕ)) : Type 0 where
  about : Verb
  is : verb_of words ≡ Some about
  count : HasCount about (length words)
  caller : IsCallVerb about → IsSomeUpTo 15 (word_at words 0)
  name : IsCallVerb about → IsName (word_at words 2)
  numbers : HasNumbers words about

good_none : (words : List (List ℕ)) → Good words → (why : Reason) → WordsHave words why → ⊥
good_none words good reason.Byte has = has
good_none words good reason.Verb has = let clash : None ≡ Some good.about = sym has ∙ good.is in cc
good_none words good reason.Words has = subst (λ o. IsSomeAnd o (λ v. ¬ HasCount v (length words))) good.is has good.count
good_none words good reason.Caller has = let bad = subst (λ o. IsSomeAnd o (λ v. IsCallVerb v × ¬ IsSomeUpTo 15 (word_at words 0))) good.is has in bad.1 (good.caller bad.0)
good_none words good reason.Name has = let bad = subst (λ o. IsSomeAnd o (λ v. IsCallVerb v × ¬ IsName (word_at words 2))) good.is has in bad.1 (good.name bad.0)
good_none words good reason.Number has = subst (λ o. IsSomeAnd o (λ v. ¬ HasNumbers words v)) good.is has good.numbers

-- texts with other first bytes
other_text : (a b : List ℕ) → (get_or a 0 0 ≡ get_or b 0 0 → ⊥) → bytes_eq a b ≡ false
other_text a b apart = by_cases (bytes_eq a b) refl where
  by_cases : (t : Bool) → bytes_eq a b ≡ t → t ≡ false
  by_cases true is = absurd (apart (ap (λ s. get_or s 0 0) ((bytes_eq-Decides a b).0 is)))
  by_cases false is = refl

-- a number is none of the words that set or end something
number_sets_nothing : (text : List ℕ) (n : ℕ) → IsNumber text n → setting_verb text ≡ None
number_sets_nothing text n is =
    let digit = first_digit text n is in
    let j : bytes_eq text (codes "join") ≡ false = other_text text (codes "join") (λ e. omega (arith, digit, e)) in
    let c : bytes_eq text (codes "crash") ≡ false = other_text text (codes "crash") (λ e. omega (arith, digit, e)) in
    let u : bytes_eq text (codes "updater") ≡ false = other_text text (codes "updater") (λ e. omega (arith, digit, e)) in
    let l : bytes_eq text (codes "limit") ≡ false = other_text text (codes "limit") (λ e. omega (arith, digit, e)) in
    rw (j, c, u, l) refl

some_number : (text : List ℕ) (n : ℕ) → IsNumber text n → IsSomeUpTo (2 ^ 64) text
some_number text n is = (n, (is, omega (arith, is.fits)))

-- the words of a call have no reason
call_good : (caller : List ℕ) (n : ℕ) (rest : List (List ℕ)) (about : Verb) → IsUpTo 15 caller n → call_verb (word_at (caller ∷ rest) 1) ≡ Some about →
    HasCount about (length (caller ∷ rest)) → IsName (word_at (caller ∷ rest) 2) → HasNumbers (caller ∷ rest) about → Good (caller ∷ rest)
call_good caller n rest about is says count name numbers = record {
  about = about;
  is = ap (λ o. option_or o (call_verb (word_at (caller ∷ rest) 1))) (number_sets_nothing caller n is.0) ∙ says;
  count = count;
  caller = λ _. (n, is);
  name = λ _. name;
  numbers = numbers;
}

op_good : (words : List (List ℕ)) (caller : List ℕ) (n : ℕ) (op : Op) → IsUpTo 15 caller n → AsksFor words caller op → Good words
op_good words caller n (Put name value) is asks =
    subst Good (sym asks.1.2) (call_good caller n (codes "put" ∷ name ∷ asks.1.0 ∷ []) verb.Put is refl refl asks.0 (some_number asks.1.0 value asks.1.1))
op_good words caller n (Get name) is asks = subst Good (sym asks.1) (call_good caller n (codes "get" ∷ name ∷ []) verb.Get is refl refl asks.0 tt)
op_good words caller n (Del name) is asks = subst Good (sym asks.1) (call_good caller n (codes "del" ∷ name ∷ []) verb.Del is refl refl asks.0 tt)
op_good words caller n (Scan from count) is asks =
    subst Good (sym asks.1.2) (call_good caller n (codes "scan" ∷ from ∷ asks.1.0 ∷ []) verb.Scan is refl refl asks.0 (some_number asks.1.0 count asks.1.1))

zip_each : (most : ℕ) (words : List (List ℕ)) (ns : List ℕ) → AllZip (IsUpTo most) words ns → AllByRecursion (IsSomeUpTo most) words
zip_each most [] ns all = tt
zip_each most (word ∷ words) [] all = absurd all
zip_each most (word ∷ words) (n ∷ ns) all = ((n, all.0), zip_each most words ns all.1)

-- the words of a line that is no call have no reason
setting_good : (words : List (List ℕ)) (about : Verb) → (IsCallVerb about → ⊥) → verb_of words ≡ Some about → HasCount about (length words) → HasNumbers words about → Good words
setting_good words about sets is count numbers = record {
  about = about;
  is = is;
  count = count;
  caller = λ calls. absurd (sets calls);
  name = λ calls. absurd (sets calls);
  numbers = numbers;
}

said_good : (words : List (List ℕ)) (said : Line) → Says words said → (said ≡ Blank → ⊥) → Good words
said_good words Blank says some = absurd (some refl)
said_good words (Call caller op) says some = op_good words says.0 caller op says.1 says.2
said_good words Join says some = subst Good (sym says) (setting_good (codes "join" ∷ []) verb.Join (λ no. no) refl refl tt)
said_good words (Crash plan) says some =
    let long = AllZip-long (IsUpTo 1000000) says.1 (plan.budgets ++ plan.updater_budget ∷ []) says.3 in
    let more = length_push plan.budgets plan.updater_budget in
    let budgets = All-from_recursion (IsSomeUpTo 1000000) says.1 (zip_each 1000000 says.1 (plan.budgets ++ plan.updater_budget ∷ []) says.3) in
    subst Good (sym says.6) (setting_good (codes "crash" ∷ says.0 ∷ says.1) verb.Crash (λ no. no) refl
    (omega (arith, long, more, says.4), omega (arith, long, more, says.5)) (some_number says.0 plan.seed says.2, budgets))
said_good words (Updater turns) says some = subst Good (sym says.2) (setting_good (codes "updater" ∷ says.0 ∷ []) verb.Updater (λ no. no) refl refl (turns, says.1))
said_good words (Limit limit) says some = subst Good (sym says.2) (setting_good (codes "limit" ∷ says.0 ∷ []) verb.Limit (λ no. no) refl refl (limit, says.1))

-- a blank line has no first reason
blank_none : (line : List ℕ) (why : Reason) (said : Line) → said ≡ Blank → Says (words_of line) said → IsFirstReason line why → ⊥
blank_none line why Blank is (inl none) first = first.some none
blank_none line why Blank is (inr comment) first = first.asks comment
blank_none line why (Call caller op) is says first = cc
blank_none line why Join is says first = cc
blank_none line why (Crash plan) is says first = cc
blank_none line why (Updater turns) is says first = cc
blank_none line why (Limit limit) is says first = cc

plain_none : (line : List ℕ) (said : Line) → IsLine line said → (said ≡ Blank → ⊥) → (why : Reason) → HasReason line why → ⊥
plain_none line said is some reason.Byte has = plain is.1 where
  plain : (said ≡ Blank) ⊎ All IsLineByte line → ⊥
  plain (inl blank) = some blank
  plain (inr bytes) = has bytes
plain_none line said is some reason.Verb has = good_none (words_of line) (said_good (words_of line) said is.0 some) reason.Verb has
plain_none line said is some reason.Words has = good_none (words_of line) (said_good (words_of line) said is.0 some) reason.Words has
plain_none line said is some reason.Caller has = good_none (words_of line) (said_good (words_of line) said is.0 some) reason.Caller has
plain_none line said is some reason.Name has = good_none (words_of line) (said_good (words_of line) said is.0 some) reason.Name has
plain_none line said is some reason.Number has = good_none (words_of line) (said_good (words_of line) said is.0 some) reason.Number has

-- a line that asks something has no first reason
pub asked_none : (line : List ℕ) (said : Line) (why : Reason) → IsLine line said → IsFirstReason line why → ⊥
asked_none line said why is first =
    plain_none line said is (λ blank. blank_none line why said blank is.0 first) why first.has

-- The reason of this turn.
reason_at : ℕ → Reason
reason_at zero = reason.Byte
reason_at (suc zero) = reason.Verb
reason_at (suc (suc zero)) = reason.Words
reason_at (suc (suc (suc zero))) = reason.Caller
reason_at (suc (suc (suc (suc zero)))) = reason.Name
reason_at (suc (suc (suc (suc (suc n))))) = reason.Number

back : (why : Reason) → reason_at (rank_of why) ≡ why
unfolding reason_at
back reason.Byte = refl
back reason.Verb = refl
back reason.Words = refl
back reason.Caller = refl
back reason.Name = refl
back reason.Number = refl

-- no two reasons have one turn
pub rank_one : (a b : Reason) → rank_of a ≡ rank_of b → a ≡ b
rank_one a b same = sym (back a) ∙ ap reason_at same ∙ back b

-- a line has one first reason
pub reason_one : (line : List ℕ) (a b : Reason) → IsFirstReason line a → IsFirstReason line b → a ≡ b
reason_one line a b first second =
    let same : rank_of a ≡ rank_of b = omega (arith, λ (less : rank_of a < rank_of b). second.first a less first.has, λ (less : rank_of b < rank_of a). first.first b less second.has) in
    rank_one a b same
