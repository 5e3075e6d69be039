-- Calls as scripts mostly write them, with one space between words.
use Rattle.std.specs.Prelude.{◌≡◌, ℕ, List, ◌∷◌, ◌++◌, codes}
use Rattle.cat_key.specs.Names.{IsName}
use Rattle.cat_history.specs.declared.op.Op.{Op}
use Rattle.cat_history.specs.declared.op.Op.TheVariants.{Put, Get, Del, Scan}
use Rattle.cat_script.specs.Numbers.{IsNumber}

-- A name and the text of a number, with one space between them.
abbrev pub AreNameAndNumber : List ℕ → List ℕ → ℕ → Type 0
AreNameAndNumber text name n =
    IsName name × ((number : List ℕ) × IsNumber number n × (text ≡ name ++ 32 ∷ number))

-- The text behind the caller of such a line, which asks this.
abbrev pub IsUsual : List ℕ → Op → Type 0
IsUsual text (Put name value) = (rest : List ℕ) × AreNameAndNumber rest name value × (text ≡ codes " put " ++ rest)
IsUsual text (Get name) = IsName name × (text ≡ codes " get " ++ name)
IsUsual text (Del name) = IsName name × (text ≡ codes " del " ++ name)
IsUsual text (Scan from count) = (rest : List ℕ) × AreNameAndNumber rest from count × (text ≡ codes " scan " ++ rest)
