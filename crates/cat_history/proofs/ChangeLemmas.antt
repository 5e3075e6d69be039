-- What a map has under a name after one change.
use Rattle.std.proofs.Common.{◌≡◌, ◌≢◌, ℕ, cond, Some, None, List, refl, sym, ◌∙◌}
use Rattle.std.specs.Cmp.Lexicographic.{nat_list_cmp_total}
use Rattle.std.specs.FinMap.{get-insert, get-remove}
use Rattle.cat_history.specs.Maps.{Map, at}
use Rattle.cat_history.specs.Writes.{changed, name_of}
use Rattle.cat_history.specs.CrashEnds.{IsFound}
use Rattle.cat_history.specs.declared.op.Change.{Change}
use Rattle.cat_history.specs.declared.op.Change.TheVariants.{Put, Del}
use Rattle.cat_history.proofs.NameLemmas.{by_names}

-- a change leaves every other name
pub at-changed_other : (m : Map) (c : Change) (name : List ℕ) → name ≢ name_of c → at (changed m c) name ≡ at m name
at-changed_other m (Put key value) name other =
    get-insert nat_list_cmp_total m key value name ∙ by_names name key (λ b. cond b (Some value) (at m name) ≡ at m name) (λ e. absurd (other e)) (λ _. refl)
at-changed_other m (Del key) name other =
    get-remove nat_list_cmp_total m key name ∙ by_names name key (λ b. cond b None (at m name) ≡ at m name) (λ e. absurd (other e)) (λ _. refl)

-- a change is found right after it
pub changed_found : (m : Map) (c : Change) → IsFound (changed m c) c
changed_found m (Put key value) =
    get-insert nat_list_cmp_total m key value key ∙ by_names key key (λ b. cond b (Some value) (at m key) ≡ Some value) (λ _. refl) (λ other. absurd (other refl))
changed_found m (Del key) =
    get-remove nat_list_cmp_total m key key ∙ by_names key key (λ b. cond b None (at m key) ≡ None) (λ _. refl) (λ other. absurd (other refl))

-- maps in which one change is found are alike under its name
pub found_alike : (m end : Map) (c : Change) → IsFound m c → IsFound end c → at end (name_of c) ≡ at m (name_of c)
found_alike m end (Put key value) here there = there ∙ sym here
found_alike m end (Del key) here there = there ∙ sym here
