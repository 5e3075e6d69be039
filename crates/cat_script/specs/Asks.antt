-- What a line asks, by its words: a case for each form of a line.
use Rattle.std.specs.Prelude.{◌≡◌, ℕ, ◌≤◌, ◌^◌, ◌⊎◌, List, [], ◌∷◌, ◌++◌, length, codes, All, slice_get, Some}
use Rattle.std.specs.List.{AllZip}
use Rattle.cat_key.specs.Names.{IsName}
use Rattle.cat_history.specs.declared.op.Op.{Op}
use Rattle.cat_history.specs.declared.op.Op.TheVariants.{Put, Get, Del, Scan}
use Rattle.cat_script.specs.Lines.{words_of, IsLineByte}
use Rattle.cat_script.specs.Numbers.{IsNumber, IsUpTo}
use Rattle.cat_script.specs.declared.line.Line.{Line}
use Rattle.cat_script.specs.declared.line.Line.TheVariants.{Blank, Call, Join, Crash, Updater, Limit}

-- The first word begins with `#`.
abbrev pub IsComment : List (List ℕ) → Type 0
IsComment [] = ⊥
IsComment (first ∷ words) = slice_get first 0 ≡ Some 35

-- These are the words of a call of the caller that the first word names.
abbrev pub AsksFor : List (List ℕ) → List ℕ → Op → Type 0
AsksFor words caller (Put name value) = IsName name × ((number : List ℕ) × IsNumber number value ×
    (words ≡ caller ∷ codes "put" ∷ name ∷ number ∷ []))
AsksFor words caller (Get name) = IsName name × (words ≡ caller ∷ codes "get" ∷ name ∷ [])
AsksFor words caller (Del name) = IsName name × (words ≡ caller ∷ codes "del" ∷ name ∷ [])
AsksFor words caller (Scan from count) = IsName from × ((number : List ℕ) × IsNumber number count ×
    (words ≡ caller ∷ codes "scan" ∷ from ∷ number ∷ []))

-- These are the words of a line that asks this. Callers are numbers below 16; of a crash line's budgets the last is the
-- updater's, and those before it, 1 to 16, are the callers'.
abbrev pub Says : List (List ℕ) → Line → Type 0
Says words Blank = (words ≡ []) ⊎ IsComment words
Says words (Call caller op) = (number : List ℕ) × IsUpTo 15 number caller × AsksFor words number op
Says words Join = words ≡ codes "join" ∷ []
Says words (Crash plan) = (seed : List ℕ) × (budgets : List (List ℕ)) × IsNumber seed plan.seed ×
    AllZip (IsUpTo 1000000) budgets (plan.budgets ++ plan.updater_budget ∷ []) × (1 ≤ length plan.budgets) ×
    (length plan.budgets ≤ 16) × (words ≡ codes "crash" ∷ seed ∷ budgets)
Says words (Updater turns) =
    (number : List ℕ) × IsUpTo 100000 number turns × (words ≡ codes "updater" ∷ number ∷ [])
Says words (Limit limit) =
    (number : List ℕ) × IsUpTo (2 ^ 62) number limit × (words ≡ codes "limit" ∷ number ∷ [])

-- A line of a script that asks this. Only blank lines and comments may have any byte.
abbrev pub IsLine : List ℕ → Line → Type 0
IsLine line said = Says (words_of line) said × ((said ≡ Blank) ⊎ All IsLineByte line)
