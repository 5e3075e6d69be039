-- Where a name's target begins and ends, by the bounds: all the anchors but the empty text.
use Rattle.std.proofs.Common.{◌≡◌, ℕ, suc, ◌+◌, ◌<◌, Bool, true, not, Some, None, List, [], ◌∷◌, ◌++◌, length, get_or, take, drop, slice_get, unwrap_or, is_some, refl, sym, ap, ◌∙◌, arith, append_assoc, length-append}
use Rattle.std.proofs.Math.Seq.{take-append_seam, drop-append_seam}
use Rattle.std.specs.List.{last_or}
use Rattle.std.specs.List as list
use Rattle.shapes.specs.Anchors.{below, Anchors, AreAnchors, up_to, past, target_of, next_of}
use Rattle.shapes.proofs.Orders.{empty_first, clash}
use Rattle.shapes.proofs.NameLists.{filter-keeps, filter-drops}
use Rattle.shapes.proofs.Targets.{part}
use Rattle.member_map.specs.Members.{anchors_of}

pub up_to-first : (bounds : List (List ℕ)) (name : List ℕ) → up_to (anchors_of bounds) name ≡ [] ∷ up_to bounds name
up_to-first bounds name = filter-keeps (λ anchor. not (below name anchor)) [] bounds (ap not (empty_first name))

pub past-first : (bounds : List (List ℕ)) (name : List ℕ) → past (anchors_of bounds) name ≡ past bounds name
past-first bounds name = filter-drops (λ anchor. below name anchor) [] bounds (empty_first name)

-- the bounds that are at most the name come first
pub both-parts : (bounds : List (List ℕ)) (name : List ℕ) → AreAnchors (anchors_of bounds) → up_to bounds name ++ past bounds name ≡ bounds
both-parts bounds name are =
    let p = part (anchors_of bounds) name are in
    let whole : anchors_of bounds ≡ up_to (anchors_of bounds) name ++ past (anchors_of bounds) name =
    p.is ∙ sym (append_assoc p.before (p.low ∷ []) p.after) ∙ ap (λ (xs : Anchors). xs ++ p.after) (sym p.up) ∙ ap (λ (xs : Anchors). up_to (anchors_of bounds) name ++ xs) (sym p.past_is) in
    sym (ap (drop 1) (whole ∙ ap (λ (xs : Anchors). xs ++ past (anchors_of bounds) name) (up_to-first bounds name)
    ∙ ap (λ (xs : Anchors). [] ∷ (up_to bounds name ++ xs)) (past-first bounds name)))

-- where the members of so many bounds more begin
seam : (us ps : Anchors) (k : ℕ) → slice_get (us ++ ps) (length us + k) ≡ slice_get ps k
seam [] ps k = let none : 0 + k ≡ k = omega arith in ap (slice_get ps) none
seam (u ∷ us) ps k =
    let one : length (u ∷ us) + k ≡ suc (length us + k) = omega arith in
    ap (slice_get (u ∷ us ++ ps)) one ∙ seam us ps k

last-at : (x : List ℕ) (us ps : Anchors) → get_or (x ∷ us ++ ps) (length us) [] ≡ unwrap_or (last_or (Some x) us) []
last-at x [] ps = refl
last-at x (u ∷ us) ps = last-at u us ps

abbrev pub place_of : List (List ℕ) → List ℕ → ℕ
place_of bounds name = length (up_to bounds name)

pub place-within : (bounds : List (List ℕ)) (name : List ℕ) → AreAnchors (anchors_of bounds) → place_of bounds name + length (past bounds name) ≡ length bounds
place-within bounds name are = sym (length-append (up_to bounds name) (past bounds name)) ∙ ap length (both-parts bounds name are)

-- one bound more, behind those that are at most the name
pub bound-inserted : (bounds : List (List ℕ)) (name bound : List ℕ) → AreAnchors (anchors_of bounds) →
    anchors_of (list.insert bounds (place_of bounds name) bound) ≡ up_to (anchors_of bounds) name ++ bound ∷ past (anchors_of bounds) name
bound-inserted bounds name bound are =
    let us : Anchors = up_to bounds name in
    let ps : Anchors = past bounds name in
    ap (λ (xs : Anchors). [] ∷ (take (length us) xs ++ bound ∷ drop (length us) xs)) (sym (both-parts bounds name are))
    ∙ ap (λ (xs : Anchors). [] ∷ (xs ++ bound ∷ drop (length us) (us ++ ps))) (take-append_seam us ps)
    ∙ ap (λ (xs : Anchors). [] ∷ (us ++ bound ∷ xs)) (drop-append_seam us ps)
    ∙ ap (λ (xs : Anchors). xs ++ bound ∷ ps) (sym (up_to-first bounds name))
    ∙ ap (λ (xs : Anchors). up_to (anchors_of bounds) name ++ bound ∷ xs) (sym (past-first bounds name))

-- and the first one above the name less
pub bound-removed : (bounds : List (List ℕ)) (name : List ℕ) → AreAnchors (anchors_of bounds) →
    anchors_of (list.remove bounds (place_of bounds name)) ≡ up_to (anchors_of bounds) name ++ drop 1 (past (anchors_of bounds) name)
bound-removed bounds name are =
    let us : Anchors = up_to bounds name in
    let ps : Anchors = past bounds name in
    ap (λ (xs : Anchors). [] ∷ (take (length us) xs ++ drop (suc (length us)) xs)) (sym (both-parts bounds name are))
    ∙ ap (λ (xs : Anchors). [] ∷ (xs ++ drop (suc (length us)) (us ++ ps))) (take-append_seam us ps)
    ∙ ap (λ (xs : Anchors). [] ∷ (us ++ xs)) (dropped us ps)
    ∙ ap (λ (xs : Anchors). xs ++ drop 1 ps) (sym (up_to-first bounds name))
    ∙ ap (λ (xs : Anchors). up_to (anchors_of bounds) name ++ drop 1 xs) (sym (past-first bounds name))
  where
    dropped : (us ps : Anchors) → drop (suc (length us)) (us ++ ps) ≡ drop 1 ps
    dropped [] ps = refl
    dropped (u ∷ us) ps = dropped us ps

-- where there is a next member, there is a bound at that place
pub next-within : (bounds : List (List ℕ)) (name : List ℕ) → AreAnchors (anchors_of bounds) → is_some (next_of (anchors_of bounds) name) ≡ true → place_of bounds name < length bounds
next-within bounds name are next =
    let sum = place-within bounds name are in
    let some = has-one (past bounds name) (ap {B = Bool} is_some (ap (λ (xs : Anchors). slice_get xs 0) (sym (past-first bounds name))) ∙ next) in
    omega (arith, sum, some)
  where
    has-one : (xs : Anchors) → is_some (slice_get xs 0) ≡ true → 0 < length xs
    has-one [] is = clash is refl
    has-one (x ∷ xs) is = omega arith

pub target-begins : (bounds : List (List ℕ)) (name : List ℕ) → AreAnchors (anchors_of bounds) → get_or (anchors_of bounds) (place_of bounds name) [] ≡ target_of (anchors_of bounds) name
target-begins bounds name are =
    ap (λ (xs : Anchors). get_or ([] ∷ xs) (place_of bounds name) []) (sym (both-parts bounds name are))
    ∙ last-at [] (up_to bounds name) (past bounds name)
    ∙ sym (ap (λ (xs : Anchors). unwrap_or (last_or None xs) []) (up_to-first bounds name))

pub next-begins : (bounds : List (List ℕ)) (name : List ℕ) (k : ℕ) → AreAnchors (anchors_of bounds) → slice_get bounds (place_of bounds name + k) ≡ slice_get (past (anchors_of bounds) name) k
next-begins bounds name k are =
    ap (λ (xs : Anchors). slice_get xs (place_of bounds name + k)) (sym (both-parts bounds name are))
    ∙ seam (up_to bounds name) (past bounds name) k
    ∙ sym (ap (λ (xs : Anchors). slice_get xs k) (past-first bounds name))
