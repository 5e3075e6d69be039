-- A map that has under each name what it had, or what a change that was cut off leaves, is one that a crash may leave.
use Rattle.std.proofs.Common.{inl, inr, ◌≡◌, ℕ, zero, suc, Bool, true, false, cond, Decides, Option, Some, None, List, [], ◌∷◌, ◌++◌, refl, sym, ap, subst, ◌∙◌, arith}
use Rattle.std.proofs.lemmas.Bool.{false≢true}
use Rattle.std.proofs.lemmas.Bool.Decides.{Decides-eqb}
use Rattle.std.proofs.lemmas.List.Elements.{Contains-append_right}
use Rattle.std.proofs.lemmas.Map.Lookups.{exact_bytes}
use Rattle.std.specs.Prelude.{◌⊎◌, Contains}
use Rattle.std.specs.Cmp.Lexicographic.{nat_list_cmp_total}
use Rattle.std.specs.FinMap.{same_map}
use Rattle.std.specs.Option.{is_none}
use Rattle.cat_history.specs.Maps.{Map, at}
use Rattle.cat_history.specs.Writes.{changed, name_of}
use Rattle.cat_history.specs.CrashEnds.{IsFound, has_value, is_found, found_in, after_changes, IsCrashEnd, IsFoundCut, HasOldOrCut, OldOrCutIsCrashEnd, NoneOrOneIsCrashEnd}
use Rattle.cat_history.specs.declared.op.Change.{Change}
use Rattle.cat_history.specs.declared.op.Change.TheVariants.{Put, Del}
use Rattle.cat_history.proofs.ChangeLemmas.{at-changed_other, changed_found, found_alike}
use Rattle.cat_history.proofs.NameLemmas.{by_names, some≢none}

value-Decides : (o : Option ℕ) (value : ℕ) → Decides (has_value o value) (o ≡ Some value)
value-Decides None value = (λ e. absurd (false≢true e), λ e. absurd (some≢none value (sym e)))
value-Decides (Some number) value = (
  λ e. ap (λ n. Some n) ((Decides-eqb number value).0 e),
  λ e. (Decides-eqb number value).1 (let same : Some number ≡ Some value = e in cc),
)

none-Decides : (o : Option ℕ) → Decides (is_none o) (o ≡ None)
none-Decides None = (λ _. refl, λ _. refl)
none-Decides (Some number) = (λ e. absurd (false≢true e), λ e. absurd (some≢none number e))

-- the test says whether a change is found
pub found-Decides : (end : Map) (c : Change) → Decides (is_found end c) (IsFound end c)
found-Decides end (Put name value) = value-Decides (at end name) value
found-Decides end (Del name) = none-Decides (at end name)

-- whether a change is found, by cases
pub by_found : (end : Map) (c : Change) (P : Bool → Type 0) → (IsFound end c → P true) → ((IsFound end c → ⊥) → P false) → P (is_found end c)
by_found end c P found lost =
    elim (is_found end c) as (λ b. Decides b (IsFound end c) → P b) [
      | true ↦ λ d. found (d.0 refl)
      | false ↦ λ d. lost (λ h. false≢true (d.1 h))
    ] (found-Decides end c)

-- a list that has the element behind others contains it
pub contains_here : (cuts before behind : List Change) (c : Change) → cuts ≡ before ++ c ∷ behind → Contains cuts c
contains_here cuts before behind c split =
    subst (λ cs. Contains cs c) (sym split) (Contains-append_right before (c ∷ behind) c (0, omega arith, refl))

first_or_later : (first : Change) (later : List Change) (c : Change) → Contains (first ∷ later) c → (first ≡ c) ⊎ Contains later c
first_or_later first later c (zero, within, is) = inl is
first_or_later first later c (suc k, within, is) = inr (k, omega (arith, within), is)

-- of the first change that was cut off nothing more is to be said where it is not found, or is about another name
skipped : (m : Map) (first : Change) (later : List Change) (end : Map) (name : List ℕ) → (IsFound end first → name_of first ≡ name → ⊥) →
    (at end name ≡ at m name) ⊎ IsFoundCut (first ∷ later) end name → (at end name ≡ at m name) ⊎ IsFoundCut later end name
skipped m first later end name unlike (inl old) = inl old
skipped m first later end name unlike (inr is) =
    elim (first_or_later first later is.change is.cut) as (λ _. (at end name ≡ at m name) ⊎ IsFoundCut later end name) [
      | inl here ↦ absurd (unlike (subst (IsFound end) (sym here) is.found) (ap name_of here ∙ is.about))
      | inr behind ↦ inr (record { change = is.change; cut = behind; about = is.about; found = is.found })
    ]

-- after the first change, which is found, the later ones account for the rest
after_first : (m : Map) (first : Change) (later : List Change) (end : Map) → IsFound end first → HasOldOrCut m (first ∷ later) end →
    HasOldOrCut (changed m first) later end
after_first m first later end found old_or_cut name =
    by_names name (name_of first) (λ _. (at end name ≡ at (changed m first) name) ⊎ IsFoundCut later end name)
    (λ here. inl (subst (λ k. at end k ≡ at (changed m first) k) (sym here) (found_alike (changed m first) end first (changed_found m first) found)))
    (λ other. subst (λ o. (at end name ≡ o) ⊎ IsFoundCut later end name) (sym (at-changed_other m first name other))
    (skipped m first later end name (λ _ about. other (sym about)) (old_or_cut name)))

pub old_or_cut_is_crash_end : OldOrCutIsCrashEnd
old_or_cut_is_crash_end m [] end old_or_cut = same_map nat_list_cmp_total exact_bytes end m (λ name. as_old name (old_or_cut name)) where
  as_old : (name : List ℕ) → (at end name ≡ at m name) ⊎ IsFoundCut [] end name → at end name ≡ at m name
  as_old name (inl old) = old
  as_old name (inr is) = absurd (omega (arith, is.cut.1))
old_or_cut_is_crash_end m (first ∷ later) end old_or_cut =
    by_found end first (λ b. end ≡ after_changes m (cond b (first ∷ found_in end later) (found_in end later)))
    (λ found. old_or_cut_is_crash_end (changed m first) later end (after_first m first later end found old_or_cut))
    (λ lost. old_or_cut_is_crash_end m later end (λ name. skipped m first later end name (λ found _. lost found) (old_or_cut name)))

-- nothing of what was cut off came to pass
pub none_is_crash_end : (m : Map) (cuts : List Change) → IsCrashEnd m cuts m
none_is_crash_end m cuts = old_or_cut_is_crash_end m cuts m (λ name. inl refl)

-- of what was cut off one change came to pass
pub one_is_crash_end : (m : Map) (cuts : List Change) (c : Change) → Contains cuts c → IsCrashEnd m cuts (changed m c)
one_is_crash_end m cuts c cut =
    old_or_cut_is_crash_end m cuts (changed m c) (λ name.
    by_names name (name_of c) (λ _. (at (changed m c) name ≡ at m name) ⊎ IsFoundCut cuts (changed m c) name)
    (λ here. inr (record { change = c; cut = cut; about = sym here; found = changed_found m c }))
    (λ other. inl (at-changed_other m c name other)))

pub none_or_one_is_crash_end : NoneOrOneIsCrashEnd
none_or_one_is_crash_end m cuts = (none_is_crash_end m cuts, one_is_crash_end m cuts)
