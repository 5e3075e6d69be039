-- Maps that have the same numbers at the names that pass a test list the same names there.
use Rattle.std.proofs.Common.{◌≡◌, ℕ, Bool, true, false, cond, Option, None, List, map, refl, sym, ap, ◌∙◌}
use Rattle.std.specs.Cmp.Lexicographic.{nat_list_cmp_total}
use Rattle.std.specs.FinMap as fin
use Rattle.std.specs.FinMap.Entries.{where_key, find-where_key, is_sorted-where_key, same_entries}
use Rattle.std.specs.List.{filter}
use Rattle.std.proofs.lemmas.Map.Lookups.{exact_bytes}
use Rattle.cat_key.specs.Names.{name_cmp}
use Rattle.cat_history.specs.Maps.{Map, at}
use Rattle.cat_history.specs.Scans.{is_between, range}

module _ (test : List ℕ → Bool) where
  found : (m : Map) (q : List ℕ) → fin.find name_cmp q (where_key name_cmp test (fin.entries m)) ≡ cond (test q) (at m q) None
  found m q = find-where_key name_cmp test q (λ x is. ap test (sym (exact_bytes q x is))) (fin.entries m) ∙ ap (λ o. cond (test q) o None) (sym (fin.get-entries m q))

  cut_same : (m n : Map) → ((name : List ℕ) → test name ≡ true → at n name ≡ at m name) → (q : List ℕ) → cond (test q) (at n q) None ≡ cond (test q) (at m q) None
  cut_same m n same q = elim (test q) as (λ b. test q ≡ b → cond b (at n q) None ≡ cond b (at m q) None) [ true ↦ λ is. same q is | false ↦ λ is. refl ] refl

  pub same_pairs : (m n : Map) → ((name : List ℕ) → test name ≡ true → at n name ≡ at m name) → filter (λ (e : List ℕ × ℕ). test e.0) (fin.entries n) ≡ filter (λ (e : List ℕ × ℕ). test e.0) (fin.entries m)
  same_pairs m n same =
      same_entries name_cmp nat_list_cmp_total exact_bytes (where_key name_cmp test (fin.entries n)) (where_key name_cmp test (fin.entries m))
      (is_sorted-where_key name_cmp test (fin.entries n) (fin.entries_sorted n)) (is_sorted-where_key name_cmp test (fin.entries m) (fin.entries_sorted m))
      (λ q. found n q ∙ cut_same m n same q ∙ sym (found m q))

-- So does a range of scans.
pub same_range : (low : List ℕ) (high : Option (List ℕ)) (m n : Map) → ((name : List ℕ) → is_between low high name ≡ true → at n name ≡ at m name) → range n low high ≡ range m low high
same_range low high m n same = ap (map (λ (e : List ℕ × ℕ). record { name = e.0; value = e.1 })) (same_pairs (is_between low high) m n same)
