-- What calls leave of the lists of a map in several members.
use Rattle.std.proofs.Common.{◌≡◌, ℕ, ◌+◌, ◌*◌, ◌/◌, ◌≤◌, ◌&&◌, nat_le, is_some, is_none, Option, Some, None, List, length, slice_get, sym, ap, subst, ◌∙◌, arith, cond}
use Rattle.std.specs.Cmp.Lexicographic.{nat_list_cmp_total}
use Rattle.std.specs.FinMap.{insert, remove, len, len-insert}
use Rattle.cat_key.specs.declared.Pair.{Pair}
use Rattle.cat_history.specs.Maps.{Map, at, map_of}
use Rattle.cat_history.specs.Replays.{pairs_of}
use Rattle.cat_history.proofs.NameLemmas.{some≢none}
use Rattle.cat_history.proofs.ReplayLemmas.{map_of-pairs_of}
use Rattle.shapes.specs.Anchors.{Anchors, names_between, past, target_of, next_of, names_at, IsFullPut, put_anchors, del_anchors}
use Rattle.shapes.specs.Weights.{IsShape}
use Rattle.shapes.proofs.Agreements.{put-stays}
use Rattle.shapes.proofs.Shapes.{del-stays, delete_keeps_shape, put_keeps_shape}
use Rattle.member_map.specs.Members.{AreMembers, anchors_of}
use Rattle.member_map.proofs.ShapeLemmas.{names-fit}

-- pairs of a map, in its order, are those of their own map
pub pairs-map : (m : Map) (ps : List Pair) → ps ≡ pairs_of m → map_of ps ≡ m
pairs-map m ps is = ap map_of is ∙ map_of-pairs_of m

pub pairs-in-order : (m : Map) (ps : List Pair) → ps ≡ pairs_of m → ps ≡ pairs_of (map_of ps)
pairs-in-order m ps is = is ∙ ap pairs_of (sym (pairs-map m ps is))

pub made-members : (slots nodes : ℕ) (m : Map) (anchors : Anchors) (ps : List Pair) (bounds : List (List ℕ)) → 2 ≤ slots → ps ≡ pairs_of m → anchors_of bounds ≡ anchors →
    IsShape slots nodes m anchors → AreMembers slots nodes ps bounds
made-members slots nodes m anchors ps bounds halves is bounded shape =
    record {
      halves = halves;
      in_order = pairs-in-order m ps is;
      shape = subst (λ xs. IsShape slots nodes (map_of ps) xs) (sym bounded) (subst (λ n. IsShape slots nodes n anchors) (sym (pairs-map m ps is)) shape);
    }

-- what a put that isn't full makes of members is members, and so is what a delete makes of them
pub put-members : (slots nodes : ℕ) (ps after : List Pair) (bounds now : List (List ℕ)) (name : List ℕ) (v : ℕ) → AreMembers slots nodes ps bounds →
    (IsFullPut slots nodes (map_of ps) (anchors_of bounds) name → ⊥) → after ≡ pairs_of (insert (map_of ps) name v) → anchors_of now ≡ put_anchors slots (map_of ps) (anchors_of bounds) name →
    AreMembers slots nodes after now
put-members slots nodes ps after bounds now name v was room grown bounded =
    made-members slots nodes (insert (map_of ps) name v) (put_anchors slots (map_of ps) (anchors_of bounds) name) after now was.halves grown bounded
    (put_keeps_shape slots nodes (map_of ps) (anchors_of bounds) name v was.halves was.shape room)

pub del-members : (slots nodes : ℕ) (ps after : List Pair) (bounds now : List (List ℕ)) (name : List ℕ) → AreMembers slots nodes ps bounds → after ≡ pairs_of (remove (map_of ps) name) →
    anchors_of now ≡ del_anchors slots (map_of ps) (anchors_of bounds) name → AreMembers slots nodes after now
del-members slots nodes ps after bounds now name was left bounded =
    made-members slots nodes (remove (map_of ps) name) (del_anchors slots (map_of ps) (anchors_of bounds) name) after now was.halves left bounded
    (delete_keeps_shape slots nodes (map_of ps) (anchors_of bounds) name was.shape)

-- a put of a name that is there is never full, and splits nothing
pub there-is-not-full : (slots nodes : ℕ) (m : Map) (anchors : Anchors) (name : List ℕ) (v : ℕ) → at m name ≡ Some v → IsFullPut slots nodes m anchors name → ⊥
there-is-not-full slots nodes m anchors name v has full = some≢none v (sym has ∙ full.lacks)

pub there-splits-none : (slots : ℕ) (m : Map) (anchors : Anchors) (name : List ℕ) (v : ℕ) → at m name ≡ Some v → put_anchors slots m anchors name ≡ anchors
there-splits-none slots m anchors name v has =
    put-stays slots m anchors name (ap (λ o. is_none o && nat_le slots (length (names_at m anchors name))) has)

-- a delete of one that isn't merges nothing
pub lacking-merges-none : (slots : ℕ) (m : Map) (anchors : Anchors) (name : List ℕ) → at m name ≡ None → del_anchors slots m anchors name ≡ anchors
lacking-merges-none slots m anchors name lacks =
    del-stays slots m anchors name
    (ap (λ o. is_some o && (is_some (next_of anchors name) && nat_le
    (length (names_between (remove m name) (target_of anchors name) (slice_get (past anchors name) 1))) (slots / 2))) lacks)

-- where a put isn't full there is memory for its pair
pub room-for-one : (slots nodes : ℕ) (m : Map) (anchors : Anchors) (name : List ℕ) → 2 ≤ slots → IsShape slots nodes m anchors → at m name ≡ None →
    (IsFullPut slots nodes m anchors name → ⊥) → len m + 1 ≤ slots * nodes
room-for-one slots nodes m anchors name halves shape lacks room =
    let fits = names-fit slots nodes (insert m name 0) (put_anchors slots m anchors name) (put_keeps_shape slots nodes m anchors name 0 halves shape room) in
    let more : len (insert m name 0) ≡ len m + 1 = len-insert nat_list_cmp_total m name 0 ∙ ap (λ (o : Option ℕ). cond (is_some o) (len m) (len m + 1)) lacks in
    omega (arith, fits, more)
