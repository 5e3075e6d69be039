-- Lines fit or have a first that doesn't, and that is one.
use Rattle.std.proofs.Common.{◌≡◌, ℕ, ◌<◌, ◌≤◌, ◌⊎◌, inl, inr, List, [], ◌∷◌, ◌++◌, length, refl, sym, ap, subst, ◌∙◌, arith}
use Rattle.std.proofs.lemmas.Bool.{cases_lt, cases_eq}
use Rattle.std.proofs.lemmas.List.Elements.{All-nil, All-cons}
use Rattle.std.specs.Prelude.{Result, Ok, Err, All, IsOk, IfErr, IsErrOf}
use Rattle.cat_script.specs.Fits.{FitsCallers, IsUnfit, IsFirstUnfit, IsUnfitBy}
use Rattle.cat_script.specs.Laws.{FitsOrIsUnfit, UnfitFitsNot, IsOneUnfitAtMost}
use Rattle.cat_script.specs.declared.fault.ScriptFault.{ScriptFault}
use Rattle.cat_script.specs.declared.fault.ScriptFault.TheVariants as fault
use Rattle.cat_script.specs.declared.line.Reason.{Reason}
use Rattle.cat_script.specs.declared.line.Reason.TheVariants as reason
use Rattle.cat_script.specs.declared.script.Need.{Need}
use Rattle.cat_script.specs.declared.script.Need.TheVariants.{Caller, Budgets, Nothing}
use Rattle.cat_script.specs.declared.script.ScriptLine.{ScriptLine}
use Rattle.cat_script.proofs.CrashLemmas.{among}
use Rattle.cat_script.proofs.ScriptLaws.{longer, alike}

-- a line has one reason not to fit
why_one : (callers : ℕ) (need : Need) (a b : Reason) → IsUnfit callers need a → IsUnfit callers need b → a ≡ b
why_one callers (Caller number) a b is is' = is.0 ∙ sym is'.0
why_one callers (Budgets count) a b is is' = is.0 ∙ sym is'.0
why_one callers Nothing a b is is' = absurd is

unfit_within : (callers : ℕ) (before : List ScriptLine) (line : ScriptLine) (after all : List ScriptLine) (why : Reason) → all ≡ before ++ line ∷ after → All (FitsCallers callers) all →
    IsUnfit callers line.need why → ⊥
unfit_within callers before line after all why is fitting unfit = among (FitsCallers callers) all before line after is fitting why unfit

not_sooner : (callers : ℕ) (lines : List ScriptLine) (m n : ℕ) (why why' : Reason) (a : IsFirstUnfit callers lines m why) (b : IsFirstUnfit callers lines n why') → length a.before < length b.before → ⊥
not_sooner callers lines m n why why' a b less =
    let more = longer a.before b.before a.line b.line a.after b.after (sym a.cut ∙ b.cut) less in
    unfit_within callers a.before a.line more.0 b.before why more.1 b.fitting a.unfit

-- one line is the first that doesn't fit, for one reason
pub one_unfit : IsOneUnfitAtMost
one_unfit callers lines m n why why' a b =
    let same : length a.before ≡ length b.before = omega (arith, not_sooner callers lines m n why why' a b, not_sooner callers lines n m why' why b a) in
    let cut = alike a.before b.before a.line b.line a.after b.after (sym a.cut ∙ b.cut) same in
    let numbers = a.number_is ∙ ap (λ (l : ScriptLine). l.number) cut.1 ∙ sym b.number_is in
    let whys = why_one callers b.line.need why why' (subst (λ (l : ScriptLine). IsUnfit callers l.need why) cut.1 a.unfit) b.unfit in
    (numbers, whys)

unfit_one : (callers : ℕ) (lines : List ScriptLine) (m n : ℕ) (why why' : Reason) → IsFirstUnfit callers lines m why → IsFirstUnfit callers lines n why' → fault.Line m why ≡ fault.Line n why'
unfit_one callers lines m n why why' a b = let same = one_unfit callers lines m n why why' a b in λ i. fault.Line (same.0 i) (same.1 i)

pub unfit_fits_not : UnfitFitsNot
unfit_fits_not callers lines number why first fits = unfit_within callers first.before first.line first.after lines why first.cut fits first.unfit

-- a line fits, or there is why it doesn't
need_fits : (callers : ℕ) (need : Need) → ((why : Reason) → ¬ IsUnfit callers need why) ⊎ ((why : Reason) × IsUnfit callers need why)
need_fits callers (Caller number) = go (cases_lt number callers) where
  go : (number < callers) ⊎ (callers ≤ number) → ((why : Reason) → ¬ IsUnfit callers (Caller number) why) ⊎ ((why : Reason) × IsUnfit callers (Caller number) why)
  go (inl within) = inl (λ why unfit. omega (arith, within, unfit.1))
  go (inr past) = inr (reason.Caller, (refl, past))
need_fits callers (Budgets count) = go (cases_eq count callers) where
  go : (count ≡ callers) ⊎ (count ≡ callers → ⊥) → ((why : Reason) → ¬ IsUnfit callers (Budgets count) why) ⊎ ((why : Reason) × IsUnfit callers (Budgets count) why)
  go (inl same) = inl (λ why unfit. unfit.1 same)
  go (inr other) = inr (reason.Words, (refl, other))
need_fits callers Nothing = inl (λ why unfit. unfit)

-- one line more before those
unfit_behind : (callers : ℕ) (line : ScriptLine) (lines : List ScriptLine) (number : ℕ) (why : Reason) → FitsCallers callers line → IsFirstUnfit callers lines number why → IsFirstUnfit callers (line ∷ lines) number why
unfit_behind callers line lines number why fits first = record {
  before = line ∷ first.before;
  line = first.line;
  after = first.after;
  cut = ap (λ (ls : List ScriptLine). line ∷ ls) first.cut;
  fitting = All-cons (FitsCallers callers) line first.before fits first.fitting;
  number_is = first.number_is;
  unfit = first.unfit;
}

pub fits_or_unfit : FitsOrIsUnfit
fits_or_unfit callers [] = inl (All-nil (FitsCallers callers))
fits_or_unfit callers (line ∷ lines) = go (need_fits callers line.need) (fits_or_unfit callers lines) where
  go : (FitsCallers callers line) ⊎ ((why : Reason) × IsUnfit callers line.need why) → All (FitsCallers callers) lines ⊎ ((number : ℕ) × (why : Reason) × IsFirstUnfit callers lines number why) →
      All (FitsCallers callers) (line ∷ lines) ⊎ ((number : ℕ) × (why : Reason) × IsFirstUnfit callers (line ∷ lines) number why)
  go (inl here) (inl behind) = inl (All-cons (FitsCallers callers) line lines here behind)
  go (inl here) (inr first) = inr (first.0, first.1, unfit_behind callers line lines first.0 first.1 here first.2)
  go (inr unfit) behind = inr (
    line.number,
    unfit.0,
    record {
      before = [];
      line = line;
      after = lines;
      cut = refl;
      fitting = All-nil (FitsCallers callers);
      number_is = refl;
      unfit = unfit.1;
    },
  )

-- the first line that doesn't fit is told
pub unfit_told : {T : Type 0} (callers : ℕ) (lines : List ScriptLine) (r : Result T ScriptFault) → (IsOk r → All (FitsCallers callers) lines) → IfErr r (IsUnfitBy callers lines) → (n : ℕ) (why : Reason) →
    IsFirstUnfit callers lines n why → IsErrOf r (fault.Line n why)
unfit_told callers lines (Ok x) fits unfit n why first = absurd (unfit_within callers first.before first.line first.after lines why first.cut (fits refl) first.unfit)
unfit_told callers lines (Err fault.Bytes) fits unfit n why first = absurd unfit
unfit_told callers lines (Err (fault.Rounds line)) fits unfit n why first = absurd unfit
unfit_told callers lines (Err (fault.Calls line)) fits unfit n why first = absurd unfit
unfit_told callers lines (Err (fault.Scans line)) fits unfit n why first = absurd unfit
unfit_told callers lines (Err (fault.Line line reason)) fits unfit n why first = ap Err (unfit_one callers lines line n reason why unfit first)
unfit_told callers lines (Err fault.NoMemory) fits unfit n why first = absurd unfit
