-- The laws of shapes, by the anchors.
use Rattle.std.proofs.Common.{◌≡◌, ℕ, ◌+◌, ◌*◌, ◌/◌, ◌<◌, ◌≤◌, true, false, not, if◌then◌else◌, ◌&&◌, nat_le, is_some, is_none, ⊎_elim, Option, Some, None, List, [], ◌∷◌, ◌++◌, length, get_or, drop, slice_get, refl, sym, ap, subst, ◌∙◌, arith, append_assoc, length-append, length-take, length-drop, leb-true, option_map}
use Rattle.std.proofs.lemmas.Bool.{lt-leb}
use Rattle.std.proofs.lemmas.List.{length-map}
use Rattle.std.specs.FinMap.{keys, insert, remove, len, entries, len-entries}
use Rattle.std.specs.List.{AllByRecursion}
use Rattle.cat_history.specs.Maps.{Map, at}
use Rattle.shapes.specs.Anchors.{below, AnchorsRise, Anchors, AreAnchors, is_between, names_between, up_to, past, target_of, next_of, names_at, IsFullPut, splits, middle_of, put_anchors, merges, del_anchors}
use Rattle.shapes.specs.Members.{Member, lower, upper, Placed, Puts, members}
use Rattle.shapes.specs.Weights.{IsShape, members_weight, weight, one_if, one_lacking}
use Rattle.shapes.specs.Laws.{PartsAgree, FreshIsShape, PutKeepsShape, DeleteKeepsShape, SplitIsEnough, PutWeighs, DeleteWeighs, FullWeighs, OneNodeIsRoom}
use Rattle.shapes.proofs.Orders.{true_or_false, clash, empty_first}
use Rattle.shapes.proofs.NameLists.{all_append, all_first, all_second, filter-keeps, filter-drops, filter-short, with_name-there}
use Rattle.shapes.proofs.Keys.{rise-keys, among-keys, keys-insert}
use Rattle.shapes.proofs.Targets.{Parted, part, target-is, next-is, names_at-is, members_before, member_of, is-target, all-between, and_false}
use Rattle.shapes.proofs.Turns.{Parts, one_target}
use Rattle.shapes.proofs.Agreements.{put_agrees, delete_agrees, length-members, fits-target, none-is, some-none, put-stays, put-splits, by-keys, first-kept, and-first, and-second, split-are, split-members, split-few, lower-names, upper-names}
use Rattle.shapes.proofs.MemberWeights.{each_weighs, split-weighs, put-weighs, put-fits, delete-weighs, delete-fits}

pub len-keys : (m : Map) → len m ≡ length (keys m)
len-keys m = len-entries m ∙ sym (length-map (entries m) (λ e. e.0))

abbrev Fits : ℕ → List Member → Type 0
Fits slots shape = AllByRecursion (λ (member : Member). length member.names ≤ slots) shape

first-anchor : (m : Map) (anchors : Anchors) → option_map (λ (member : Member). member.anchor) (slice_get (members m anchors) 0) ≡ slice_get anchors 0
first-anchor m [] = refl
first-anchor m (a ∷ later) = refl

pub parts_agree : PartsAgree
parts_agree m anchors low before after target are here =
    let p = part anchors low are in
    let same = one_target low (members m anchors) before target after (members_before m p.before p.low) (member_of m p.low (slice_get p.after 0)) (members m p.after) here (is-target m anchors low p) in
    ap (λ (x : Parts). option_map (λ (member : Member). member.anchor) (slice_get x.after 0)) same
    ∙ first-anchor m p.after ∙ sym (next-is anchors low p)

pub fresh_is_shape : FreshIsShape
fresh_is_shape slots nodes m some few =
    let size = len-keys m in
    let short = filter-short (is_between [] None) (keys m) in
    record { ordered = record { first = refl; rise = (tt, tt) }; few = some; fits = (omega arith, tt) }

-- the target's names are as many as are told
pub its-many : (slots : ℕ) (m : Map) (anchors : Anchors) (name : List ℕ) (p : Parted anchors name) → splits slots m anchors name ≡ true → slots ≤ length (names_between m p.low (slice_get p.after 0))
its-many slots m anchors name p is =
    subst (λ xs. slots ≤ length xs) (names_at-is m anchors name p)
    (leb-true slots (length (names_at m anchors name)) (and-second (is_none (at m name)) (nat_le slots (length (names_at m anchors name))) is))

longer : (before : Anchors) (low middle : List ℕ) (after : Anchors) → length (before ++ low ∷ middle ∷ after) ≡ length (before ++ low ∷ after) + 1
longer [] low middle after = omega arith
longer (b ∷ bs) low middle after = let rest = longer bs low middle after in omega arith

-- what a put leaves of the anchors is anchors
put-anchors : (slots nodes : ℕ) (m : Map) (anchors : Anchors) (name : List ℕ) (value : ℕ) → 2 ≤ slots → IsShape slots nodes m anchors → AreAnchors (put_anchors slots m anchors name)
put-anchors slots nodes m anchors name value enough shape =
    let p = part anchors name shape.ordered in
    ⊎_elim
    (λ (is : splits slots m anchors name ≡ true).
    subst AreAnchors (sym (put-splits slots m anchors name p is))
    (split-are slots nodes m anchors name value enough shape.ordered p (fits-target slots m anchors name p shape.fits) (its-many slots m anchors name p is)))
    (λ (isnt : splits slots m anchors name ≡ false). subst AreAnchors (sym (put-stays slots m anchors name isnt)) shape.ordered)
    (true_or_false (splits slots m anchors name))

put-longer : (slots : ℕ) (m : Map) (anchors : Anchors) (name : List ℕ) (p : Parted anchors name) → splits slots m anchors name ≡ true → length (put_anchors slots m anchors name) ≡ length anchors + 1
put-longer slots m anchors name p is =
    let here = ap length (put-splits slots m anchors name p is) in
    let more = longer p.before p.low (get_or (names_between m p.low (slice_get p.after 0)) (slots / 2) []) p.after in
    let was = ap length p.is in
    omega arith

put-few : (slots nodes : ℕ) (m : Map) (anchors : Anchors) (name : List ℕ) → IsShape slots nodes m anchors → (IsFullPut slots nodes m anchors name → ⊥) → length (put_anchors slots m anchors name) ≤ nodes
put-few slots nodes m anchors name shape room =
    let p = part anchors name shape.ordered in
    let most = shape.few in
    ⊎_elim
    (λ (is : splits slots m anchors name ≡ true).
    let more = put-longer slots m anchors name p is in
    let whole : slots ≤ length (names_at m anchors name) = leb-true slots (length (names_at m anchors name)) (and-second (is_none (at m name)) (nat_le slots (length (names_at m anchors name))) is) in
    let lacks : at m name ≡ None = none-if (at m name) (and-first (is_none (at m name)) (nat_le slots (length (names_at m anchors name))) is) in
    let others : length anchors ≡ nodes → ⊥ = λ all. room (record { lacks = lacks; whole = whole; no_node = all }) in
    omega arith)
    (λ (isnt : splits slots m anchors name ≡ false). let same = ap length (put-stays slots m anchors name isnt) in omega arith)
    (true_or_false (splits slots m anchors name))
  where
    none-if : (o : Option ℕ) → is_none o ≡ true → o ≡ None
    none-if None is = refl
    none-if (Some x) is = clash is refl

-- the list that a put which isn't full comes to
put-there : (slots nodes : ℕ) (m : Map) (anchors : Anchors) (name : List ℕ) (value : ℕ) → 2 ≤ slots → IsShape slots nodes m anchors → (IsFullPut slots nodes m anchors name → ⊥) →
    Puts slots nodes name (members m anchors) (Placed (members (insert m name value) (put_anchors slots m anchors name)))
put-there slots nodes m anchors name value enough shape room =
    let after : List Member = members (insert m name value) (put_anchors slots m anchors name) in
    ⊎_elim
    (λ full. absurd (room full.0))
    (λ placed. (placed.1 (Placed after)).1 refl)
    (put_agrees slots nodes m anchors name value enough shape)

pub put_keeps_shape : PutKeepsShape
put_keeps_shape slots nodes m anchors name value enough shape room =
    record {
      ordered = put-anchors slots nodes m anchors name value enough shape;
      few = put-few slots nodes m anchors name shape room;
      fits = put-fits slots nodes name (members m anchors) (members (insert m name value) (put_anchors slots m anchors name)) (put-there slots nodes m anchors name value enough shape room) shape.fits;
    }

-- ---- deletes

rise-less : (before : Anchors) (low : List ℕ) (after : Anchors) → AnchorsRise (before ++ low ∷ after) → AnchorsRise (before ++ low ∷ drop 1 after)
rise-less [] low [] rise = rise
rise-less [] low (h ∷ rest) rise = (rise.0.1, rise.1.1)
rise-less (b ∷ bs) low after rise = (
  all_append (λ a. below b a ≡ true) bs (low ∷ drop 1 after) (all_first (λ a. below b a ≡ true) bs (low ∷ after) rise.0)
      (fewer after (all_second (λ a. below b a ≡ true) bs (low ∷ after) rise.0)),
  rise-less bs low after rise.1,
)
  where
    fewer : (after : Anchors) → AllByRecursion (λ a. below b a ≡ true) (low ∷ after) → AllByRecursion (λ a. below b a ≡ true) (low ∷ drop 1 after)
    fewer [] all = all
    fewer (h ∷ rest) all = (all.0, all.1.1)

pub del-merges : (slots : ℕ) (m : Map) (anchors : Anchors) (name : List ℕ) (p : Parted anchors name) → merges slots m anchors name ≡ true → del_anchors slots m anchors name ≡ p.before ++ p.low ∷ drop 1 p.after
del-merges slots m anchors name p is =
    ap (λ b. if b then up_to anchors name ++ drop 1 (past anchors name) else anchors) is
    ∙ ap (λ xs. xs ++ drop 1 (past anchors name)) p.up ∙ ap (λ xs. (p.before ++ p.low ∷ []) ++ drop 1 xs) p.past_is
    ∙ append_assoc p.before (p.low ∷ []) (drop 1 p.after)

pub del-stays : (slots : ℕ) (m : Map) (anchors : Anchors) (name : List ℕ) → merges slots m anchors name ≡ false → del_anchors slots m anchors name ≡ anchors
del-stays slots m anchors name isnt = ap (λ b. if b then up_to anchors name ++ drop 1 (past anchors name) else anchors) isnt

pub delete_keeps_shape : DeleteKeepsShape
delete_keeps_shape slots nodes m anchors name shape =
    let p = part anchors name shape.ordered in
    let most = shape.few in
    let fits : Fits slots (members (remove m name) (del_anchors slots m anchors name)) =
    delete-fits slots name (members m anchors) (members (remove m name) (del_anchors slots m anchors name))
    ((delete_agrees slots m anchors name shape.ordered (members (remove m name) (del_anchors slots m anchors name))).1 refl) shape.fits in
    ⊎_elim
    (λ (is : merges slots m anchors name ≡ true).
    let e = del-merges slots m anchors name p is in
    let here = ap length e in
    let was = ap length p.is in
    let first = length-append p.before (p.low ∷ drop 1 p.after) in
    let second = length-append p.before (p.low ∷ p.after) in
    let cut = length-drop 1 p.after in
    record {
      ordered = subst AreAnchors (sym e) (record {
        first = first-kept p.before p.low (drop 1 p.after) p.after ∙ ap (λ xs. slice_get xs 0) (sym p.is) ∙ shape.ordered.first;
        rise = rise-less p.before p.low p.after (subst AnchorsRise p.is shape.ordered.rise);
      });
      few = omega arith;
      fits = fits;
    })
    (λ (isnt : merges slots m anchors name ≡ false).
    let e = del-stays slots m anchors name isnt in
    let here = ap length e in
    record { ordered = subst AreAnchors (sym e) shape.ordered; few = omega arith; fits = fits })
    (true_or_false (merges slots m anchors name))

-- ---- splits

pub split_is_enough : SplitIsEnough
split_is_enough slots nodes m anchors name enough even shape is =
    let p = part anchors name shape.ordered in
    let its : List (List ℕ) = names_between m p.low (slice_get p.after 0) in
    let middle : List ℕ = get_or its (slots / 2) [] in
    let fits : length its ≤ slots = fits-target slots m anchors name p shape.fits in
    let many : slots ≤ length its = its-many slots m anchors name p is in
    let e : put_anchors slots m anchors name ≡ p.before ++ p.low ∷ middle ∷ p.after = put-splits slots m anchors name p is in
    let parted = split-members slots nodes m anchors name 0 enough shape.ordered p fits many in
    let at_middle : middle_of slots m anchors name ≡ middle = ap (λ xs. get_or xs (slots / 2) []) (names_at-is m anchors name p) in
    let first = length-take (slots / 2) its in
    let second = length-drop (slots / 2) its in
    let low_size : length (names_between m p.low (Some middle)) ≡ slots / 2 = ap length (lower-names slots nodes m anchors name 0 enough shape.ordered p fits many) ∙ omega arith in
    let high_size : length (names_between m middle (slice_get p.after 0)) ≡ slots / 2 = ap length (upper-names slots nodes m anchors name 0 enough shape.ordered p fits many) ∙ omega arith in
    let unsplit : splits slots m (p.before ++ p.low ∷ middle ∷ p.after) name ≡ false = splits-not is p middle fits many in
    let few = shape.few in
    let longer = put-longer slots m anchors name p is in
    record {
      low_half = subst (λ low. length (names_between m low (Some (middle_of slots m anchors name))) ≡ slots / 2) (sym (target-is anchors name p))
          (subst (λ mid. length (names_between m p.low (Some mid)) ≡ slots / 2) (sym at_middle) low_size);
      high_half = subst (λ high. length (names_between m (middle_of slots m anchors name) high) ≡ slots / 2) (sym (next-is anchors name p))
          (subst (λ mid. length (names_between m mid (slice_get p.after 0)) ≡ slots / 2) (sym at_middle) high_size);
      one_more = longer;
      shape = record {
        ordered = put-anchors slots nodes m anchors name 0 enough shape;
        few = omega arith;
        fits = subst (λ xs. Fits slots (members m xs)) (sym e) (subst (Fits slots) (sym parted) (halves-fit p (subst (Fits slots) (is-target m anchors name p).place shape.fits)));
      };
      weighs = let same : weight slots m (put_anchors slots m anchors name) ≡ weight slots m anchors =
          ap (weight slots m) e ∙ ap (members_weight slots) parted
          ∙ split-weighs slots (members_before m p.before p.low) (member_of m p.low (slice_get p.after 0)) (members m p.after) many
          ∙ ap (members_weight slots) (sym (is-target m anchors name p).place) in omega arith;
      no_second = ap (λ xs. splits slots m xs name) e ∙ unsplit;
      room = λ most full. no-room p middle fits many (subst (λ xs. slots ≤ length (names_at m xs name)) e full.whole);
      stays = put-stays slots m (put_anchors slots m anchors name) name (ap (λ xs. splits slots m xs name) e ∙ unsplit);
    }
  where
    few-now : (p : Parted anchors name) → length (names_between m p.low (slice_get p.after 0)) ≤ slots → slots ≤ length (names_between m p.low (slice_get p.after 0)) →
        length (names_at m (p.before ++ p.low ∷ get_or (names_between m p.low (slice_get p.after 0)) (slots / 2) [] ∷ p.after) name) < slots
    few-now p fits many =
        let middle : List ℕ = get_or (names_between m p.low (slice_get p.after 0)) (slots / 2) [] in
        let now : Anchors = p.before ++ p.low ∷ middle ∷ p.after in
        let q = part now name (split-are slots nodes m anchors name 0 enough shape.ordered p fits many) in
        subst (λ xs. length xs < slots) (sym (names_at-is m now name q)) (split-few slots nodes m anchors name 0 enough shape.ordered p fits many q)

    no-room : (p : Parted anchors name) (middle : List ℕ) → length (names_between m p.low (slice_get p.after 0)) ≤ slots → slots ≤ length (names_between m p.low (slice_get p.after 0)) →
        slots ≤ length (names_at m (p.before ++ p.low ∷ get_or (names_between m p.low (slice_get p.after 0)) (slots / 2) [] ∷ p.after) name) → ⊥
    no-room p middle fits many whole = let few = few-now p fits many in omega arith

    splits-not : splits slots m anchors name ≡ true → (p : Parted anchors name) (middle : List ℕ) → length (names_between m p.low (slice_get p.after 0)) ≤ slots → slots ≤ length (names_between m p.low (slice_get p.after 0)) →
        splits slots m (p.before ++ p.low ∷ get_or (names_between m p.low (slice_get p.after 0)) (slots / 2) [] ∷ p.after) name ≡ false
    splits-not is p middle fits many =
        let now : Anchors = p.before ++ p.low ∷ get_or (names_between m p.low (slice_get p.after 0)) (slots / 2) [] ∷ p.after in
        ap (λ b. is_none (at m name) && b) (lt-leb slots (length (names_at m now name)) (few-now p fits many)) ∙ and_false (is_none (at m name))

    halves-fit : (p : Parted anchors name) → Fits slots (members_before m p.before p.low ++ member_of m p.low (slice_get p.after 0) ∷ members m p.after) →
        Fits slots (members_before m p.before p.low ++ lower slots (member_of m p.low (slice_get p.after 0)) ∷ upper slots (member_of m p.low (slice_get p.after 0)) ∷ members m p.after)
    halves-fit p all =
        let t : Member = member_of m p.low (slice_get p.after 0) in
        let b : List Member = members_before m p.before p.low in
        let a : List Member = members m p.after in
        let those : Fits slots (t ∷ a) = all_second (λ (member : Member). length member.names ≤ slots) b (t ∷ a) all in
        let its : length t.names ≤ slots = those.0 in
        let first = length-take (slots / 2) t.names in
        let second = length-drop (slots / 2) t.names in
        all_append (λ (member : Member). length member.names ≤ slots) b (lower slots t ∷ upper slots t ∷ a)
        (all_first (λ (member : Member). length member.names ≤ slots) b (t ∷ a) all)
        (omega (arith, its, first), (omega (arith, its, second), those.1))

-- ---- weight

pub put_weighs : PutWeighs
put_weighs slots nodes m anchors name value enough shape room =
    ⊎_elim
    (λ (has : is_some (at m name) ≡ true).
    let none : is_none (at m name) ≡ false = some-none (at m name) has in
    let stays : put_anchors slots m anchors name ≡ anchors = put-stays slots m anchors name (ap (λ b. b && nat_le slots (length (names_at m anchors name))) none) in
    let same : weight slots (insert m name value) (put_anchors slots m anchors name) ≡ weight slots m anchors =
    ap (weight slots (insert m name value)) stays
    ∙ ap (members_weight slots) (by-keys (insert m name value) m (keys-insert m name value ∙ with_name-there name (keys m) (rise-keys m) (among-keys m name ∙ has)) anchors) in
    let more : one_lacking m name ≡ 0 = ap one_if none in
    omega arith)
    (λ (lacks : is_some (at m name) ≡ false).
    let weighs = put-weighs slots nodes name (members m anchors) (members (insert m name value) (put_anchors slots m anchors name)) (put-there slots nodes m anchors name value enough shape room) in
    let more : one_lacking m name ≡ 1 = ap one_if (none-is (at m name) lacks) in
    omega arith)
    (true_or_false (is_some (at m name)))

pub delete_weighs : DeleteWeighs
delete_weighs slots m anchors name are =
    delete-weighs slots name (members m anchors) (members (remove m name) (del_anchors slots m anchors name))
    ((delete_agrees slots m anchors name are (members (remove m name) (del_anchors slots m anchors name))).1 refl)

pub full_weighs : FullWeighs
full_weighs slots nodes m anchors name full =
    let each = each_weighs slots (members m anchors) in
    let whole = full.whole in
    let short = filter-short (is_between (target_of anchors name) (next_of anchors name)) (keys m) in
    let size = len-keys m in (
      subst (λ n. n * (slots / 2) ≤ weight slots m anchors) (length-members m anchors ∙ full.no_node) each,
      omega arith,
    )

one-part : (name : List ℕ) → Parted ([] ∷ []) name
one-part name =
    record {
      before = [];
      low = [];
      after = [];
      is = refl;
      at_most = empty_first name;
      above = tt;
      up = filter-keeps (λ anchor. not (below name anchor)) [] [] (ap not (empty_first name));
      past_is = filter-drops (λ anchor. below name anchor) [] [] (empty_first name);
    }

pub one_node_is_room : OneNodeIsRoom
unfolding one-part
one_node_is_room slots m name most =
    let all : names_at m ([] ∷ []) name ≡ keys m = names_at-is m ([] ∷ []) name (one-part name) ∙ all-between m in
    let many = ap length all in
    let size = len-keys m in (
      λ full. (full.lacks, let whole = full.whole in omega arith),
      λ room. record { lacks = room.0; whole = let is = room.1 in omega arith; no_node = refl },
    )
