-- The map of pairs no two of which have one name, and what a push, a write in place and a removal leave of it.
use Rattle.std.proofs.Common.{◌≡◌, ◌≢◌, ℕ, zero, suc, ◌+◌, ◌<◌, ◌≤◌, cond, Option, Some, None, List, [], ◌∷◌, ◌++◌, length, get_or, map, refl, sym, ap, ◌∙◌, arith}
use Rattle.std.proofs.Math.ListN.{set}
use Rattle.std.proofs.lemmas.List.{map-append}
use Rattle.std.proofs.lemmas.Map.Lookups.{exact_bytes}
use Rattle.std.specs.Cmp.Lexicographic.{nat_list_cmp_total}
use Rattle.std.specs.FinMap.{from_entries, insert, len, get-insert, get-remove, get-from_entries, len-empty, len-insert, same_map, from_entries_push}
use Rattle.std.specs.FinMap as fin
use Rattle.std.specs.List.{remove}
use Rattle.std.specs.Option.{is_some}
use Rattle.cat_key.specs.Names.{name_cmp}
use Rattle.cat_key.specs.declared.Pair.{Pair}
use Rattle.cat_history.specs.Maps.{Map, at, map_of}
use Rattle.cat_history.proofs.NameLemmas.{same, same-Decides, by_names, some≢none}
use Rattle.cat_history.proofs.PairLemmas.{at-cons, at-other, HasName}
use Rattle.shapes.specs.PlainMaps.{NamesDiffer, ArePlainPairs}

pub len-map_of : (ps : List Pair) → NamesDiffer ps → len (map_of ps) ≡ length ps
len-map_of [] differ = len-empty name_cmp ℕ
len-map_of (p ∷ ps) differ =
    len-insert nat_list_cmp_total (map_of ps) p.name p.value
    ∙ ap (λ (o : Option ℕ). cond (is_some o) (len (map_of ps)) (len (map_of ps) + 1)) differ.0 ∙ omega (arith, len-map_of ps differ.1)

pub at-position : (ps : List Pair) (i : ℕ) (n : List ℕ) (d : Pair) → NamesDiffer ps → i < length ps → HasName ps i n →
    at (map_of ps) n ≡ Some (get_or ps i d).value
at-position [] i n d differ within named = absurd (omega (arith, within))
at-position (p ∷ ps) zero n d differ within named =
    at-cons p ps n ∙ ap (λ b. cond b (Some p.value) (at (map_of ps) n)) ((same-Decides n p.name).1 (sym (named d)))
at-position (p ∷ ps) (suc i) n d differ within named =
    let later : at (map_of ps) n ≡ Some (get_or ps i d).value = at-position ps i n d differ.1 (omega (arith, within)) named in
    at-other p ps n (λ e. some≢none (get_or ps i d).value (sym later ∙ ap (at (map_of ps)) e ∙ differ.0)) ∙ later

-- they are no more names than there is room for
pub few-names : (ps : List Pair) (room capacity : ℕ) (m : Map) (most : ℕ) → ArePlainPairs ps room capacity → map_of ps ≡ m → room ≡ most → len m ≤ most
few-names ps room capacity m most are is within = omega (arith, are.fits, len-map_of ps are.differ, ap (λ (x : Map). len x) is, within)

pub at-there : (ps : List Pair) (i : ℕ) (n : List ℕ) (d : Pair) → NamesDiffer ps → i < length ps → HasName ps i n → at (map_of ps) n ≢ None
at-there ps i n d differ within named lacks = some≢none (get_or ps i d).value (sym (at-position ps i n d differ within named) ∙ lacks)

-- a pair's name is no later one's
apart : (p : Pair) (ps : List Pair) (i : ℕ) (n : List ℕ) → NamesDiffer (p ∷ ps) → i < length ps → HasName ps i n → p.name ≢ n
apart p ps i n differ within named e =
    some≢none (get_or ps i p).value (sym (at-position ps i n p differ.1 within named) ∙ ap (at (map_of ps)) (sym e) ∙ differ.0)

-- what changes at one name behind a pair changes there with it
at-cons_changed : (p : Pair) (before after : List Pair) (n : List ℕ) (w : Option ℕ) (q : List ℕ) → p.name ≢ n →
    at (map_of after) q ≡ cond (same q n) w (at (map_of before) q) → at (map_of (p ∷ after)) q ≡ cond (same q n) w (at (map_of (p ∷ before)) q)
at-cons_changed p before after n w q other changed =
    let old : Option ℕ = at (map_of before) q in
    at-cons p after q ∙ ap (cond (same q p.name) (Some p.value)) changed
    ∙ by_names q n (λ b. cond (same q p.name) (Some p.value) (cond b w old) ≡ cond b w (cond (same q p.name) (Some p.value) old))
    (λ e. by_names q p.name (λ c. cond c (Some p.value) w ≡ w) (λ here. absurd (other (sym here ∙ e))) (λ _. refl))
    (λ _. refl)
    ∙ ap (cond (same q n) w) (sym (at-cons p before q))

-- a write in place
abbrev pub written : List Pair → ℕ → List ℕ → ℕ → List Pair
written ps i n v = set ps i (record { name = n; value = v })

at-written : (ps : List Pair) (i : ℕ) (n : List ℕ) (v : ℕ) → NamesDiffer ps → i < length ps → HasName ps i n →
    (q : List ℕ) → at (map_of (written ps i n v)) q ≡ cond (same q n) (Some v) (at (map_of ps) q)
at-written [] i n v differ within named q = absurd (omega (arith, within))
at-written (p ∷ ps) zero n v differ within named q =
    at-cons (record { name = n; value = v }) ps q
    ∙ by_names q n (λ b. cond b (Some v) (at (map_of ps) q) ≡ cond b (Some v) (at (map_of (p ∷ ps)) q)) (λ _. refl) (λ other. sym (at-other p ps q (λ e. other (e ∙ named p))))
at-written (p ∷ ps) (suc i) n v differ within named q =
    let fits : i < length ps = omega (arith, within) in
    at-cons_changed p ps (written ps i n v) n (Some v) q (apart p ps i n differ fits named) (at-written ps i n v differ.1 fits named q)

pub differ-written : (ps : List Pair) (i : ℕ) (n : List ℕ) (v : ℕ) → NamesDiffer ps → i < length ps → HasName ps i n → NamesDiffer (written ps i n v)
differ-written [] i n v differ within named = absurd (omega (arith, within))
differ-written (p ∷ ps) zero n v differ within named = (ap (at (map_of ps)) (sym (named p)) ∙ differ.0, differ.1)
differ-written (p ∷ ps) (suc i) n v differ within named =
    let fits : i < length ps = omega (arith, within) in (
      at-written ps i n v differ.1 fits named p.name
          ∙ by_names p.name n (λ b. cond b (Some v) (at (map_of ps) p.name) ≡ None) (λ e. absurd (apart p ps i n differ fits named e)) (λ _. differ.0),
      differ-written ps i n v differ.1 fits named,
    )

pub map_of-written : (ps : List Pair) (i : ℕ) (n : List ℕ) (v : ℕ) → NamesDiffer ps → i < length ps → HasName ps i n →
    map_of (written ps i n v) ≡ insert (map_of ps) n v
map_of-written ps i n v differ within named =
    same_map nat_list_cmp_total exact_bytes _ _ (λ q. at-written ps i n v differ within named q ∙ sym (get-insert nat_list_cmp_total (map_of ps) n v q))

-- a removal
at-removed : (ps : List Pair) (i : ℕ) (n : List ℕ) → NamesDiffer ps → i < length ps → HasName ps i n →
    (q : List ℕ) → at (map_of (remove ps i)) q ≡ cond (same q n) None (at (map_of ps) q)
at-removed [] i n differ within named q = absurd (omega (arith, within))
at-removed (p ∷ ps) zero n differ within named q =
    by_names q n (λ b. at (map_of ps) q ≡ cond b None (at (map_of (p ∷ ps)) q)) (λ e. ap (at (map_of ps)) (e ∙ sym (named p)) ∙ differ.0) (λ other. sym (at-other p ps q (λ e. other (e ∙ named p))))
at-removed (p ∷ ps) (suc i) n differ within named q =
    let fits : i < length ps = omega (arith, within) in
    at-cons_changed p ps (remove ps i) n None q (apart p ps i n differ fits named) (at-removed ps i n differ.1 fits named q)

pub differ-removed : (ps : List Pair) (i : ℕ) (n : List ℕ) → NamesDiffer ps → i < length ps → HasName ps i n → NamesDiffer (remove ps i)
differ-removed [] i n differ within named = absurd (omega (arith, within))
differ-removed (p ∷ ps) zero n differ within named = differ.1
differ-removed (p ∷ ps) (suc i) n differ within named =
    let fits : i < length ps = omega (arith, within) in (
      at-removed ps i n differ.1 fits named p.name ∙ by_names p.name n (λ b. cond b None (at (map_of ps) p.name) ≡ None) (λ _. refl) (λ _. differ.0),
      differ-removed ps i n differ.1 fits named,
    )

pub map_of-removed : (ps : List Pair) (i : ℕ) (n : List ℕ) → NamesDiffer ps → i < length ps → HasName ps i n →
    map_of (remove ps i) ≡ fin.remove (map_of ps) n
map_of-removed ps i n differ within named =
    same_map nat_list_cmp_total exact_bytes _ _ (λ q. at-removed ps i n differ within named q ∙ sym (get-remove nat_list_cmp_total (map_of ps) n q))

-- a push of a new name
abbrev pub pushed : List Pair → List ℕ → ℕ → List Pair
pushed ps n v = ps ++ record { name = n; value = v } ∷ []

pub map_of-pushed : (ps : List Pair) (n : List ℕ) (v : ℕ) → at (map_of ps) n ≡ None → map_of (pushed ps n v) ≡ insert (map_of ps) n v
map_of-pushed ps n v lacks =
    let entries : List (List ℕ × ℕ) = map (λ (p : Pair). (p.name, p.value)) ps in
    ap (from_entries {R = name_cmp}) (map-append (λ (p : Pair). (p.name, p.value)) ps (record { name = n; value = v } ∷ []))
    ∙ from_entries_push nat_list_cmp_total exact_bytes entries n v (sym (get-from_entries nat_list_cmp_total entries n) ∙ lacks)

pub differ-pushed : (ps : List Pair) (n : List ℕ) (v : ℕ) → NamesDiffer ps → at (map_of ps) n ≡ None → NamesDiffer (pushed ps n v)
differ-pushed [] n v differ lacks = (lacks, tt)
differ-pushed (p ∷ ps) n v differ lacks =
    let other : n ≢ p.name = λ e. some≢none p.value (sym (at-cons p ps n ∙ ap (λ b. cond b (Some p.value) (at (map_of ps) n)) ((same-Decides n p.name).1 e)) ∙ lacks) in
    let behind : at (map_of ps) n ≡ None = sym (at-other p ps n other) ∙ lacks in (
      ap (λ (m : Map). at m p.name) (map_of-pushed ps n v behind) ∙ get-insert nat_list_cmp_total (map_of ps) n v p.name
          ∙ by_names p.name n (λ b. cond b (Some v) (at (map_of ps) p.name) ≡ None) (λ e. absurd (other (sym e))) (λ _. differ.0),
      differ-pushed ps n v differ.1 behind,
    )

-- a map that lacks a name is as it was after the name's removal
pub removed-lacking : (m : Map) (n : List ℕ) → at m n ≡ None → fin.remove m n ≡ m
removed-lacking m n lacks =
    same_map nat_list_cmp_total exact_bytes _ _ (λ q. get-remove nat_list_cmp_total m n q
    ∙ by_names q n (λ b. cond b None (at m q) ≡ at m q) (λ e. sym (ap (at m) e ∙ lacks)) (λ _. refl))
