-- A tree of names with their numbers as the map of its entries, and a map as pairs.
use Rattle.std.proofs.Common.{◌≡◌, ℕ, Bool, true, false, cond, not, ◌&&◌, T, Less, Equal, Greater, Option, None, List, [], ◌∷◌, ◌++◌, ◌≤◌, suc, length, get_or, take, drop, map, arith, refl, sym, ap, subst, ◌∙◌}
use Rattle.std.proofs.lemmas.List.{take_all, drop_all}
use Rattle.std.proofs.lemmas.Map.Lookups.{exact_bytes}
use Rattle.std.specs.BTreeMap.{insert_entry, is_at}
use Rattle.std.specs.Cmp.Lexicographic.{nat_list_cmp_total}
use Rattle.std.specs.FinMap as fin
use Rattle.std.specs.FinMap.Entries.{by_order, below_all, is_sorted, where_key, find-where_key, is_sorted-where_key, same_entries}
use Rattle.std.specs.Map.{remove_entry}
use Rattle.std.specs.Ordering.{is_eq, is_lt, match_ordering}
use Rattle.cat_key.specs.Names.{name_cmp}
use Rattle.cat_key.specs.declared.Pair.{Pair}
use Rattle.cat_history.specs.Maps.{Map, map_of}
use Rattle.cat_history.specs.Replays.{pairs_of}
use Rattle.cat_history.proofs.NameLemmas.{same, by_names}

abbrev Entry : Type 0
Entry = List ℕ × ℕ

abbrev pub pair_of : List ℕ × ℕ → Pair
pair_of e = record { name = e.0; value = e.1 }

abbrev entry_of : Pair → List ℕ × ℕ
entry_of p = (p.name, p.value)

-- a tree puts a name where a map has it
put_alike : (es : List Entry) (name : List ℕ) (value : ℕ) → insert_entry name_cmp es name value ≡ fin.put name_cmp name value es
put_alike [] name value = refl
put_alike (e ∷ es) name value =
    elim (name_cmp name e.0) as (λ o. match_ordering o ((name, value) ∷ e ∷ es) ((e.0, value) ∷ es) (e ∷ insert_entry name_cmp es name value) ≡ by_order o ((name, value) ∷ e ∷ es) ((e.0, value) ∷ es) (e ∷ fin.put name_cmp name value es)) [
      | Less ↦ refl
      | Equal ↦ refl
      | Greater ↦ ap (λ (rest : List Entry). e ∷ rest) (put_alike es name value)
    ]

pub entries-put : (m : Map) (name : List ℕ) (value : ℕ) → insert_entry name_cmp (fin.entries m) name value ≡ fin.entries (fin.insert m name value)
entries-put m name value = put_alike (fin.entries m) name value ∙ sym (fin.entries-insert nat_list_cmp_total m name value)

-- the entries of other names than this one
abbrev others : List ℕ → List Entry → List Entry
others name es = where_key name_cmp (λ other. not (same name other)) es

-- where the name is below all, that is each of them
all_others : (name : List ℕ) (es : List Entry) → T (below_all name_cmp name es) → others name es ≡ es
all_others name [] below = refl
all_others name (e ∷ es) below =
    elim (name_cmp name e.0) as (λ o. T (is_lt o && below_all name_cmp name es) → cond (not (is_eq o)) (e ∷ others name es) (others name es) ≡ e ∷ es) [
      | Less ↦ λ rest. ap (λ (rest : List Entry). e ∷ rest) (all_others name es rest)
      | Equal ↦ λ rest. absurd rest
      | Greater ↦ λ rest. absurd rest
    ] below

left : (a b : Bool) → T (a && b) → T a
left true b both = tt
left false b both = absurd both

right : (a b : Bool) → T (a && b) → T b
right true b both = both
right false b both = absurd both

-- a tree takes a name out of entries in order as a map does
removed_alike : (name : List ℕ) (es : List Entry) → T (is_sorted name_cmp es) → remove_entry (is_at (name_cmp name)) es ≡ others name es
removed_alike name [] sorted = refl
removed_alike name (e ∷ es) sorted =
    by_names name e.0 (λ b. cond b es (e ∷ remove_entry (is_at (name_cmp name)) es) ≡ cond (not b) (e ∷ others name es) (others name es))
    (λ here. sym (all_others name es (subst (λ (n : List ℕ). T (below_all name_cmp n es)) (sym here) (left _ _ sorted))))
    (λ other. ap (λ (rest : List Entry). e ∷ rest) (removed_alike name es (right (below_all name_cmp e.0 es) _ sorted)))

-- what a map finds among the entries of other names
find_others : (name other : List ℕ) (found : Option ℕ) → cond (not (same name other)) found None ≡ cond (same other name) None found
find_others name other found =
    by_names other name (λ b. cond (not (same name other)) found None ≡ cond b None found)
    (λ here. by_names name other (λ b. cond (not b) found None ≡ None) (λ _. refl) (λ apart. absurd (apart (sym here))))
    (λ apart. by_names name other (λ b. cond (not b) found None ≡ found) (λ here. absurd (apart (sym here))) (λ _. refl))

pub entries-removed : (m : Map) (name : List ℕ) → remove_entry (is_at (name_cmp name)) (fin.entries m) ≡ fin.entries (fin.remove m name)
entries-removed m name =
    let es = fin.entries m in
    let kept : List ℕ → Bool = λ other. not (same name other) in
    removed_alike name es (fin.entries_sorted m)
    ∙ same_entries name_cmp nat_list_cmp_total exact_bytes (others name es) (fin.entries (fin.remove m name))
    (is_sorted-where_key name_cmp kept es (fin.entries_sorted m)) (fin.entries_sorted (fin.remove m name))
    (λ q. find-where_key name_cmp kept q (λ x tied. ap kept (sym (exact_bytes q x tied))) es
    ∙ find_others name q (fin.find name_cmp q es)
    ∙ ap (cond (same q name) None) (sym (fin.get-entries m q))
    ∙ sym (fin.get-remove nat_list_cmp_total m name q) ∙ fin.get-entries (fin.remove m name) q)

no_entries : (es : List Entry) → length es ≡ 0 → es ≡ []
no_entries [] none = refl
no_entries (e ∷ es) none = absurd (omega (arith, none))

pub entries-none : fin.entries (map_of []) ≡ []
entries-none = no_entries (fin.entries (map_of [])) (sym (fin.len-entries (map_of [])) ∙ fin.len-empty name_cmp ℕ)

-- pairs of which all are left
pub all_left : (pairs rest : List Pair) → rest ≡ pairs → (rest ≡ take (length rest) pairs) × (drop (length rest) pairs ≡ [])
all_left pairs rest all =
    (all ∙ sym (take_all (length rest) pairs (subst (λ (ps : List Pair). length ps ≤ length rest) all (omega arith))), drop_all (length rest) pairs (subst (λ (ps : List Pair). length ps ≤ length rest) all (omega arith)))

-- pairs of which the last of those that are left is taken
pub one_back : (pairs rest : List Pair) (p : Pair) → rest ++ p ∷ [] ≡ take (length (rest ++ p ∷ [])) pairs
    → (rest ≡ take (length rest) pairs) × (drop (length rest) pairs ≡ p ∷ drop (length (rest ++ p ∷ [])) pairs)
one_back [] [] p left = absurd (let no : 1 ≡ 0 = ap (λ (ps : List Pair). length ps) left in omega (arith, no))
one_back [] (r ∷ rest) p left = absurd (let no : suc (length (rest ++ p ∷ [])) ≡ 0 = ap (λ (ps : List Pair). length ps) left in omega (arith, no))
one_back (first ∷ pairs) [] p left = (refl, ap (λ (q : Pair). q ∷ pairs) (sym (ap (λ (ps : List Pair). get_or ps 0 p) left)))
one_back (first ∷ pairs) (r ∷ rest) p left =
    let back = one_back pairs rest p (ap (λ (ps : List Pair). drop 1 ps) left) in
    let head : r ≡ first = ap (λ (ps : List Pair). get_or ps 0 p) left in
    ((λ k. head k ∷ back.0 k), back.1)

entries-paired : (es : List Entry) → map entry_of (map pair_of es) ≡ es
entries-paired [] = refl
entries-paired (e ∷ es) = ap (λ (rest : List Entry). e ∷ rest) (entries-paired es)

-- the map of a map's pairs is that map
pub map_of-pairs_of : (m : Map) → map_of (pairs_of m) ≡ m
map_of-pairs_of m =
    ap (fin.from_entries {R = name_cmp}) (entries-paired (fin.entries m))
    ∙ fin.same_map nat_list_cmp_total exact_bytes _ _ (λ q. fin.get-from_entries nat_list_cmp_total (fin.entries m) q ∙ sym (fin.get-entries m q))
