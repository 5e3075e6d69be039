-- Maps after a change and after longer histories.
use Rattle.std.proofs.Common.{◌≡◌, ℕ, zero, suc, ◌≤◌, Bool, true, cond, Option, Some, None, inl, inr, List, [], ◌∷◌, ◌++◌, length, refl, sym, ap, ◌∙◌, subst}
use Rattle.std.specs.Prelude.{slice_get}
use Rattle.std.specs.FinMap.{get-insert, get-remove}
use Rattle.std.specs.Ordering.{eq_by_cmp, nat_cmp}
use Rattle.std.specs.Cmp.Lexicographic.{slice_cmp}
use Rattle.std.proofs.lemmas.Cmp.{nat_list_cmp_total}
use Rattle.std.proofs.lemmas.List.{take-append-le}
use Rattle.std.proofs.lemmas.List.Sums.{fold-append}
use Rattle.std.proofs.Math.Seq.{take-length}
use Rattle.cat_history.specs.Maps.{Map, at}
use Rattle.cat_history.specs.Writes.{changed, name_of, after, after_all}
use Rattle.cat_history.specs.declared.op.Change.{Change}
use Rattle.cat_history.specs.declared.op.Change.TheVariants.{Put, Del}
use Rattle.cat_history.specs.declared.op.Write.{Write}
use Rattle.cat_key.specs.Names.{IsName}
use Rattle.data_node.specs.Spots.{Spot, Means, Finds}
use Rattle.data_node.proofs.SpotLemmas.{same_name}

-- at a name at which two maps are alike a change leaves them alike
pub at-changed_alike : (m m' : Map) (c : Change) (name : List ℕ) → at m' name ≡ at m name → at (changed m' c) name ≡ at (changed m c) name
at-changed_alike m m' (Put key value) name same =
    get-insert nat_list_cmp_total m' key value name ∙ ap (λ (o : Option ℕ). cond (eq_by_cmp (slice_cmp nat_cmp) name key) (Some value) o) same
    ∙ sym (get-insert nat_list_cmp_total m key value name)
at-changed_alike m m' (Del key) name same =
    get-remove nat_list_cmp_total m' key name ∙ ap (λ (o : Option ℕ). cond (eq_by_cmp (slice_cmp nat_cmp) name key) None o) same
    ∙ sym (get-remove nat_list_cmp_total m key name)

-- the map of a history that is longer by one write
pub after_all-push : (m : Map) (h : List Write) (w : Write) → after_all m (h ++ w ∷ []) ≡ changed (after_all m h) w.change
after_all-push m h w = fold-append (λ (n : Map) (v : Write). changed n v.change) m h (w ∷ [])

-- what came before a place stays
pub after-longer : (m : Map) (h more : List Write) (k : ℕ) → k ≤ length h → after m (h ++ more) k ≡ after m h k
after-longer m h more k within = ap (after_all m) (take-append-le k h more within)

-- at the end of the history the map is that of all of it
pub after-whole : (m : Map) (h : List Write) (k : ℕ) → k ≡ length h → after m h k ≡ after_all m h
after-whole m h k whole = ap (after m h) whole ∙ ap (after_all m) (take-length h)

pub slice_get-longer : (h more : List Write) (k : ℕ) (w : Write) → slice_get h k ≡ Some w → slice_get (h ++ more) k ≡ Some w
slice_get-longer [] more k w e = absurd (let none : None ≡ Some w = e in cc)
slice_get-longer (x ∷ xs) more zero w e = e
slice_get-longer (x ∷ xs) more (suc k) w e = slice_get-longer xs more k w e

pub slice_get-last : (h : List Write) (w : Write) → slice_get (h ++ w ∷ []) (length h) ≡ Some w
slice_get-last [] w = refl
slice_get-last (x ∷ xs) w = slice_get-last xs w

-- a node means any map that has the same under the names of its range
pub means_alike : (slots : ℕ) (range : List ℕ → Bool) (s : Spot) (m m' : Map) → ((name : List ℕ) → range name ≡ true → at m' name ≡ at m name)
    → Means slots range s m → Means slots range s m'
means_alike slots range s m m' same means = record {
  tidy = means.tidy;
  agrees = λ name is inside. subst (Finds slots s name) (sym (same name inside)) (means.agrees name is inside);
}

-- a map of names stays one
pub changed_names : (m : Map) (change : Change) → ((name : List ℕ) (value : ℕ) → at m name ≡ Some value → IsName name) → IsName (name_of change)
    → (name : List ℕ) (value : ℕ) → at (changed m change) name ≡ Some value → IsName name
changed_names m (Put about number) names is name value e =
    elim (same_name name about) [
      | inl same ↦ subst IsName (sym same.0) is
      | inr different ↦ names name value (sym (get-insert nat_list_cmp_total m about number name ∙ ap (λ b. cond b (Some number) (at m name)) different.1) ∙ e)
    ]
changed_names m (Del about) names is name value e =
    elim (same_name name about) [
      | inl same ↦ subst IsName (sym same.0) is
      | inr different ↦ names name value (sym (get-remove nat_list_cmp_total m about name ∙ ap (λ b. cond b None (at m name)) different.1) ∙ e)
    ]
