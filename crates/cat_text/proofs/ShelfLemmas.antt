-- A tree of names and bytes as files by name.
use Rattle.std.proofs.Common.{◌≡◌, ℕ, true, false, cond, Some, List, [], ◌∷◌, map, refl, sym, ap, ◌∙◌}
use Rattle.std.specs.Prelude.{string_bytes}
use Rattle.std.specs.BTreeMap.{insert_entry, is_at}
use Rattle.std.specs.Cmp.Lexicographic.{slice_cmp, nat_list_cmp_total}
use Rattle.std.specs.FinMap as fin
use Rattle.std.specs.Map.{lookup}
use Rattle.std.specs.Option.{option_map}
use Rattle.std.specs.FinMap.Entries.{by_order, find-put}
use Rattle.std.specs.Ordering.{nat_cmp, eq_by_cmp, match_ordering}
use Rattle.std.specs.String.{string_cmp}
use Rattle.std.specs.declared.alloc.Global.{Global}
use Rattle.std.specs.declared.cmp.Ordering.{Ordering}
use Rattle.std.specs.declared.cmp.Ordering.TheVariants.{Less, Equal, Greater}
use Rattle.std.specs.declared.string.String.{String}
use Rattle.std.specs.declared.vec.Vec.{Vec}
use Rattle.std.proofs.lemmas.Map.Lookups.{exact_bytes}
use Rattle.cat_text.specs.Shelves.{files_in}

abbrev Entry : Type 0
Entry = String Global × Vec ℕ Global

abbrev as_file : Entry → List ℕ × List ℕ
as_file e = (string_bytes e.0, e.1.items)

abbrev order : List ℕ → List ℕ → Ordering
order a b = slice_cmp nat_cmp a b

-- the tree puts an entry where a list of files in order has it
put_alike : (es : List Entry) (k : String Global) (v : Vec ℕ Global) →
    map as_file (insert_entry string_cmp es k v) ≡ fin.put order (string_bytes k) v.items (map as_file es)
put_alike [] k v = refl
put_alike (e ∷ es) k v =
    elim (order (string_bytes k) (string_bytes e.0)) as (λ o. map as_file (match_ordering o ((k, v) ∷ e ∷ es) ((e.0, v) ∷ es) (e ∷ insert_entry string_cmp es k v)) ≡ by_order o ((string_bytes k, v.items) ∷ as_file e ∷ map as_file es) ((string_bytes e.0, v.items) ∷ map as_file es) (as_file e ∷ fin.put order (string_bytes k) v.items (map as_file es))) [
      | Less ↦ refl
      | Equal ↦ refl
      | Greater ↦ ap (λ (files : List (List ℕ × List ℕ)). as_file e ∷ files) (put_alike es k v)
    ]

-- a new entry of the tree is a saved file
pub files_in-insert : (es : List Entry) (k : String Global) (v : Vec ℕ Global) →
    files_in (insert_entry string_cmp es k v) ≡ fin.insert (files_in es) (string_bytes k) v.items
files_in-insert es k v =
    fin.same_map nat_list_cmp_total exact_bytes _ _ (λ q. fin.get-from_entries nat_list_cmp_total _ q
    ∙ ap (fin.find order q) (put_alike es k v) ∙ find-put order nat_list_cmp_total q (string_bytes k) v.items (map as_file es)
    ∙ ap (cond (eq_by_cmp order q (string_bytes k)) (Some v.items)) (sym (fin.get-from_entries nat_list_cmp_total (map as_file es) q))
    ∙ sym (fin.get-insert nat_list_cmp_total (files_in es) (string_bytes k) v.items q))

-- what is looked up in the tree is what the file has
found_alike : (q : List ℕ) (es : List Entry) →
    option_map (λ (v : Vec ℕ Global). v.items) (lookup (is_at (λ (k : String Global). order q (string_bytes k))) es) ≡ fin.find order q (map as_file es)
found_alike q [] = refl
found_alike q (e ∷ es) =
    elim (eq_by_cmp order q (string_bytes e.0)) as (λ b. option_map (λ (v : Vec ℕ Global). v.items) (cond b (Some e.1) (lookup (is_at (λ (k : String Global). order q (string_bytes k))) es)) ≡ cond b (Some e.1.items) (fin.find order q (map as_file es))) [
      | true ↦ refl
      | false ↦ found_alike q es
    ]

pub files_in-get : (q : List ℕ) (es : List Entry) →
    option_map (λ (v : Vec ℕ Global). v.items) (lookup (is_at (λ (k : String Global). order q (string_bytes k))) es) ≡ fin.get (files_in es) q
files_in-get q es = found_alike q es ∙ sym (fin.get-from_entries nat_list_cmp_total (map as_file es) q)
