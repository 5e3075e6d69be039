-- Each kind of switch store.
use Rattle.std.proofs.Common.{◌≡◌, ◌≢◌, ℕ, ◌+◌, ◌*◌, ◌<◌, ◌≤◌, ◌⊎◌, inl, inr, refl, sym, subst, ap, ap₂, ◌∙◌, arith}
use Rattle.std.proofs.lemmas.Bool.{cases_eq}
use Rattle.tree_law.specs.Trees.{Reference, Nothing, Leaf, Cell, Tree, Reaches, here, below, IsReached, Room, IsUnder, HasTwo, IsLeaf, IsCell, IsSound, IsSoundFrom, IsTree, span, first_bytes, byte_at, low, depth_of}
use Rattle.tree_law.specs.Switches.{Place, Root, Entry, reference_at, IsPlace, FitsAt, rooted, AddMakes, PairMakes, GrowMakes, RemoveMakes, CollapseMakes}
use Rattle.tree_law.proofs.Spans.{span_pos, bytes_told}
use Rattle.tree_law.proofs.Reach.{within, byte_below, child_stretch}
use Rattle.tree_law.proofs.FloorLaw.{none_reached, leaf_reaches}
use Rattle.tree_law.proofs.Avoiding.{join}
use Rattle.tree_law.proofs.SwitchLaw.{Goes, cell_goes, below_old, old_fits, two_kept, more_makes, less_makes}
use Rattle.radix_nodes.specs.Keys.{key_bytes}

from_leaf : (t : Tree) (i : ℕ) (r q : Reference) → r ≡ Leaf i → Reaches t r q → q ≡ Leaf i
from_leaf t i r q from here = from
from_leaf t i r q from (below some_child reach) = absurd cc

pub leaf_end : (t : Tree) (i : ℕ) (q : Reference) → Reaches t (Leaf i) q → q ≡ Leaf i
leaf_end t i q reach = from_leaf t i (Leaf i) q refl reach

leaf_sound : (room : Room) (t : Tree) (i : ℕ) → IsLeaf room t i → IsSoundFrom room t (Leaf i)
leaf_sound room t i leaf q reach = subst (IsSound room t) (sym (leaf_end t i q reach)) leaf

pub some_leaf : (i : ℕ) → Leaf i ≢ Nothing
some_leaf i e = cc

pub some_cell : (x : ℕ) → Cell x ≢ Nothing
some_cell x e = cc

pub add_makes : AddMakes
add_makes room t root child x b leaf tree adds is =
    more_makes room t root child (Entry x b) (Leaf leaf) tree adds.reached is leaf (some_leaf leaf) (leaf_sound room t leaf adds.sound)
    (λ y reach. absurd (let same : Cell y ≡ Leaf leaf = leaf_end t leaf (Cell y) reach in cc)) adds.under here
    (λ i reach. absurd (none_reached t i (subst (λ r. Reaches t r (Leaf i)) adds.none reach)))
    (λ i reach. inr (sym (leaf_reaches t leaf i reach)))

pub pair_makes : PairMakes
pair_makes room t root child place pair old_byte leaf_byte leaf tree is_pair is =
    let old = reference_at t place in
    let some_old : old ≢ Nothing = is_pair.some_old in
    let has_old : t.child pair old_byte ≢ Nothing = λ e. some_old (sym is_pair.has_old ∙ e) in
    let has_leaf : t.child pair leaf_byte ≢ Nothing = λ e. some_leaf leaf (sym is_pair.has_leaf ∙ e) in
    let two : HasTwo t pair = record { one = old_byte; two = leaf_byte; apart = is_pair.apart; has_one = has_old; has_two = has_leaf } in
    let cell : IsCell room t pair = record {
      number = is_pair.number;
      depth = is_pair.depth;
      zeros = is_pair.zeros;
      two = two;
      under = λ b some_child. elim (cases_eq b old_byte) [
        | inl at_old ↦ subst (λ c. IsUnder t pair c (t.child pair c)) (sym at_old) (subst (IsUnder t pair old_byte) (sym is_pair.has_old) is_pair.old_under)
        | inr not_old ↦ elim (cases_eq b leaf_byte) [
          | inl at_leaf ↦ subst (λ c. IsUnder t pair c (t.child pair c)) (sym at_leaf) (subst (IsUnder t pair leaf_byte) (sym is_pair.has_leaf) is_pair.leaf_under)
          | inr not_leaf ↦ absurd (some_child (is_pair.only b not_old not_leaf))
        ]
      ];
    } in
    -- what is below it
    let part : (q : Reference) → Reaches t (Cell pair) q → (q ≡ Cell pair) ⊎ Reaches t old q ⊎ (q ≡ Leaf leaf) = λ q reach. elim (cell_goes t pair q reach) [
      | inl same ↦ inl same
      | inr on ↦ elim (cases_eq on.byte old_byte) [
        | inl at_old ↦ inr (inl (subst (λ r. Reaches t r q) is_pair.has_old (subst (λ c. Reaches t (t.child pair c) q) at_old on.reach)))
        | inr not_old ↦ elim (cases_eq on.byte leaf_byte) [
          | inl at_leaf ↦ inr (inr (leaf_end t leaf q (subst (λ r. Reaches t r q) is_pair.has_leaf (subst (λ c. Reaches t (t.child pair c) q) at_leaf on.reach))))
          | inr not_leaf ↦ absurd (on.some_child (is_pair.only on.byte not_old not_leaf))
        ]
      ]
    ] in
    more_makes room t root child place (Cell pair) tree is_pair.of_tree is leaf (some_cell pair)
    (λ q reach. elim (part q reach) [
      | inl same ↦ subst (IsSound room t) (sym same) cell
      | inr rest ↦ elim rest [ inl at_old ↦ tree q (below_old t place q is_pair.of_tree some_old at_old) | inr at_leaf ↦ subst (IsSound room t) (sym at_leaf) is_pair.sound ]
    ])
    (λ y reach. elim (part (Cell y) reach) [
      | inl same ↦ subst (HasTwo t) (let number : pair ≡ y = cc in number) two
      | inr rest ↦ elim rest [ inl at_old ↦ (tree (Cell y) (below_old t place (Cell y) is_pair.of_tree some_old at_old)).two | inr at_leaf ↦ absurd cc ]
    ])
    is_pair.fits
    (below has_leaf (subst (λ r. Reaches t r (Leaf leaf)) (sym is_pair.has_leaf) here))
    (λ i reach. below has_old (subst (λ r. Reaches t r (Leaf i)) (sym is_pair.has_old) reach))
    (λ i reach. elim (part (Leaf i) reach) [
      | inl same ↦ absurd cc
      | inr rest ↦ elim rest [ inl at_old ↦ inl at_old | inr at_leaf ↦ inr (let number : i ≡ leaf = cc in number) ]
    ])

-- cells of one depth and prefix are above the same
like_under : (t : Tree) (x y b : ℕ) (r : Reference) → t.depth y ≡ t.depth x → t.prefix y ≡ t.prefix x → IsUnder t x b r → IsUnder t y b r
like_under t x y b r depth prefix is = record {
  byte = is.byte;
  bytes = ap (λ d. first_bytes (d + 1) (low t r)) depth ∙ is.bytes ∙ sym (ap₂ (λ d p. 256 * first_bytes d p + b) depth prefix);
  deeper = subst (λ d. d < depth_of t r) (sym depth) is.deeper;
}

-- and stand below the same
like_fits : (t : Tree) (place : Place) (x y : ℕ) → t.depth y ≡ t.depth x → t.prefix y ≡ t.prefix x → FitsAt t place (Cell x) → FitsAt t place (Cell y)
like_fits t Root x y depth prefix is = tt
like_fits t (Entry z c) x y depth prefix is = record {
  byte = is.byte;
  bytes = ap (first_bytes (t.depth z + 1)) prefix ∙ is.bytes;
  deeper = subst (λ d. t.depth z < d) (sym depth) is.deeper;
}

pub grow_makes : GrowMakes
grow_makes room t root child place x grown b leaf tree grows is =
    let some_old : reference_at t place ≢ Nothing = λ e. some_cell x (sym grows.old ∙ e) in
    let below_x : (q : Reference) → Reaches t (Cell x) q → IsReached t q = λ q reach. below_old t place q grows.of_tree some_old (subst (λ r. Reaches t r q) (sym grows.old) reach) in
    let at_x : IsCell room t x = tree (Cell x) (below_x (Cell x) here) in
    let has_leaf : t.child grown b ≢ Nothing = λ e. some_leaf leaf (sym grows.cell.has_leaf ∙ e) in
    let other_byte : (c : ℕ) → t.child x c ≢ Nothing → c ≢ b = λ c some_child e. some_child (ap (t.child x) e ∙ grows.none) in
    let kept_some : (c : ℕ) → t.child x c ≢ Nothing → t.child grown c ≢ Nothing = λ c some_child e. some_child (sym (grows.cell.others c (other_byte c some_child)) ∙ e) in
    let two : HasTwo t grown =
    let two_x = at_x.two in
    record { one = two_x.one; two = two_x.two; apart = two_x.apart; has_one = kept_some two_x.one two_x.has_one; has_two = kept_some two_x.two two_x.has_two } in
    let cell : IsCell room t grown = record {
      number = grows.cell.number;
      depth = subst (λ d. d < key_bytes) (sym grows.cell.depth) at_x.depth;
      zeros = ap₂ (λ d p. first_bytes d p * span d) grows.cell.depth grows.cell.prefix ∙ at_x.zeros ∙ sym grows.cell.prefix;
      two = two;
      under = λ c some_child. elim (cases_eq c b) [
        | inl at_b ↦ subst (λ e. IsUnder t grown e (t.child grown e)) (sym at_b) (subst (IsUnder t grown b) (sym grows.cell.has_leaf) (like_under t x grown b (Leaf leaf) grows.cell.depth grows.cell.prefix grows.under))
        | inr not_b ↦
            let same = grows.cell.others c not_b in
            subst (IsUnder t grown c) (sym same) (like_under t x grown c (t.child x c) grows.cell.depth grows.cell.prefix (at_x.under c (λ e. some_child (same ∙ e))))
      ];
    } in
    let part : (q : Reference) → Reaches t (Cell grown) q → (q ≡ Cell grown) ⊎ (q ≡ Leaf leaf) ⊎ Goes t x q = λ q reach. elim (cell_goes t grown q reach) [
      | inl same ↦ inl same
      | inr on ↦ elim (cases_eq on.byte b) [
        | inl at_b ↦ inr (inl (leaf_end t leaf q (subst (λ r. Reaches t r q) grows.cell.has_leaf (subst (λ c. Reaches t (t.child grown c) q) at_b on.reach))))
        | inr not_b ↦ let same = grows.cell.others on.byte not_b in inr (inr (record { byte = on.byte; some_child = λ e. on.some_child (same ∙ e); reach = subst (λ r. Reaches t r q) same on.reach }))
      ]
    ] in
    more_makes room t root child place (Cell grown) tree grows.of_tree is leaf (some_cell grown)
    (λ q reach. elim (part q reach) [
      | inl same ↦ subst (IsSound room t) (sym same) cell
      | inr rest ↦ elim rest [ inl at_leaf ↦ subst (IsSound room t) (sym at_leaf) grows.sound | inr on ↦ tree q (below_x q (below on.some_child on.reach)) ]
    ])
    (λ y reach. elim (part (Cell y) reach) [
      | inl same ↦ subst (HasTwo t) (let number : grown ≡ y = cc in number) two
      | inr rest ↦ elim rest [ inl at_leaf ↦ absurd cc | inr on ↦ (tree (Cell y) (below_x (Cell y) (below on.some_child on.reach))).two ]
    ])
    (like_fits t place x grown grows.cell.depth grows.cell.prefix (subst (FitsAt t place) grows.old (old_fits room t place tree grows.of_tree some_old)))
    (below has_leaf (subst (λ r. Reaches t r (Leaf leaf)) (sym grows.cell.has_leaf) here))
    (λ i reach. elim (cell_goes t x (Leaf i) (subst (λ r. Reaches t r (Leaf i)) grows.old reach)) [
      | inl wrong ↦ absurd cc
      | inr on ↦ below (kept_some on.byte on.some_child) (subst (λ r. Reaches t r (Leaf i)) (sym (grows.cell.others on.byte (other_byte on.byte on.some_child))) on.reach)
    ])
    (λ i reach. elim (part (Leaf i) reach) [
      | inl same ↦ absurd cc
      | inr rest ↦ elim rest [ inl at_leaf ↦ inr (let number : i ≡ leaf = cc in number) | inr on ↦ inl (subst (λ r. Reaches t r (Leaf i)) (sym grows.old) (below on.some_child on.reach)) ]
    ])

pub from_nothing : (t : Tree) (r q : Reference) → r ≡ Nothing → Reaches t r q → q ≡ Nothing
from_nothing t r q from here = from
from_nothing t r q from (below some_child reach) = absurd cc

pub remove_makes : RemoveMakes
remove_makes room t root child x b leaf tree removes is =
    let other_entry : (y c : ℕ) → (y ≡ x → c ≢ b) → Entry x b ≢ Entry y c = λ y c apart e. apart (let number : y ≡ x = cc in number) (let number : c ≡ b = cc in number) in
    less_makes room t root child (Entry x b) Nothing tree removes.reached is leaf
    (λ y reach. elim (cases_eq y x) [
      | inl same ↦ subst (HasTwo (rooted t root child)) (sym same) (record {
        one = removes.one;
        two = removes.two;
        apart = removes.apart;
        has_one = λ e. removes.has_one (sym (is.others x removes.one (other_entry x removes.one (λ f. removes.not_one))) ∙ e);
        has_two = λ e. removes.has_two (sym (is.others x removes.two (other_entry x removes.two (λ f. removes.not_two))) ∙ e);
      })
      | inr other ↦
          let two = (tree (Cell y) reach).two in
          let kept : (c : ℕ) → child y c ≡ t.child y c = λ c. is.others y c (other_entry y c (λ f. absurd (other f))) in
          record { one = two.one; two = two.two; apart = two.apart; has_one = λ e. two.has_one (sym (kept two.one) ∙ e); has_two = λ e. two.has_two (sym (kept two.two) ∙ e) }
    ])
    (λ q some_new reach. absurd (some_new refl))
    (λ y reach. absurd (let wrong : Cell y ≡ Nothing = from_nothing t Nothing (Cell y) refl reach in cc))
    (λ some_new. absurd (some_new refl))
    (subst (λ r. Reaches t r (Leaf leaf)) (sym removes.leaf_is) here)
    (λ i reach apart. absurd (apart (sym (leaf_reaches t leaf i (subst (λ r. Reaches t r (Leaf i)) removes.leaf_is reach)))))
    (λ i reach. absurd (none_reached t i reach))

-- what is below a cell stands where the cell stands
below_fits : (room : Room) (t : Tree) (place : Place) (x : ℕ) (r : Reference) → IsTree room t → IsPlace t place → IsReached t (Cell x) → reference_at t place ≡ Cell x → Reaches t (Cell x) r → t.depth x < depth_of t r → FitsAt t place r
below_fits room t Root x r tree in_tree reached at_place reach deeper = tt
below_fits room t (Entry y c) x r tree in_tree reached at_place reach deeper =
    let cell : IsCell room t y = tree (Cell y) in_tree in
    let some_child : t.child y c ≢ Nothing = λ e. some_cell x (sym at_place ∙ e) in
    let part = child_stretch room t y c cell some_child (subst (IsSound room t) (sym at_place) (tree (Cell x) reached)) in
    let under = cell.under c some_child in
    let part_low : t.prefix y + c * span (t.depth y + 1) ≤ t.prefix x = subst (λ q. t.prefix y + c * span (t.depth y + 1) ≤ low t q) at_place part.low in
    let part_high : t.prefix x + span (t.depth x) ≤ t.prefix y + (c + 1) * span (t.depth y + 1) = subst (λ q. low t q + span (depth_of t q) ≤ t.prefix y + (c + 1) * span (t.depth y + 1)) at_place part.high in
    let inside = within room t {r = Cell x} {q = r} (λ q way. tree q (join t reached way)) reach in
    let least = inside.least in
    let most = inside.most in
    let some_span = span_pos (depth_of t r) in
    let deep : t.depth y < t.depth x = subst (λ q. t.depth y < depth_of t q) at_place under.deeper in
    record {
      byte = under.byte;
      bytes = bytes_told (t.depth y) (t.prefix y) (low t r) (first_bytes (t.depth y) (t.prefix y)) c cell.depth cell.zeros (omega arith) (omega arith);
      deeper = omega arith;
    }

pub collapse_makes : CollapseMakes
collapse_makes room t root child place x b leaf other_byte tree col is =
    let new = t.child x other_byte in
    let some_new : new ≢ Nothing = col.some_other in
    let has_leaf : t.child x b ≢ Nothing = λ e. some_leaf leaf (sym col.leaf_is ∙ e) in
    let some_old : reference_at t place ≢ Nothing = λ e. some_cell x (sym col.old ∙ e) in
    let below_x : (q : Reference) → Reaches t (Cell x) q → IsReached t q = λ q reach. below_old t place q col.of_tree some_old (subst (λ r. Reaches t r q) (sym col.old) reach) in
    let at_x : IsCell room t x = tree (Cell x) (below_x (Cell x) here) in
    let sound_x : IsSoundFrom room t (Cell x) = λ q reach. tree q (below_x q reach) in
    let at_leaf : Reaches t (t.child x b) (Leaf leaf) = subst (λ r. Reaches t r (Leaf leaf)) (sym col.leaf_is) here in
    let to_old : (q : Reference) → Reaches t (Cell x) q → Reaches t (reference_at t place) q = λ q reach. subst (λ r. Reaches t r q) (sym col.old) reach in
    less_makes room t root child place new tree col.of_tree is leaf
    (λ y reach. two_kept room t root child place new tree col.of_tree is some_new y (tree (Cell y) reach).two)
    (λ q some reach. tree q (below_x q (below some_new reach)))
    (λ y reach. two_kept room t root child place new tree col.of_tree is some_new y (tree (Cell y) (below_x (Cell y) (below some_new reach))).two)
    (λ some. below_fits room t place x new tree col.of_tree (below_x (Cell x) here) col.old (below some_new here) (at_x.under other_byte some_new).deeper)
    (to_old (Leaf leaf) (below has_leaf at_leaf))
    (λ i reach apart. elim (cell_goes t x (Leaf i) (subst (λ r. Reaches t r (Leaf i)) col.old reach)) [
      | inl wrong ↦ absurd cc
      | inr on ↦ elim (cases_eq on.byte b) [
        | inl at_b ↦ absurd (apart (sym (leaf_reaches t leaf i (subst (λ r. Reaches t r (Leaf i)) col.leaf_is (subst (λ c. Reaches t (t.child x c) (Leaf i)) at_b on.reach)))))
        | inr not_b ↦ elim (cases_eq on.byte other_byte) [
          | inl at_other ↦ subst (λ c. Reaches t (t.child x c) (Leaf i)) at_other on.reach
          | inr not_other ↦ absurd (on.some_child (col.only on.byte not_b not_other))
        ]
      ]
    ])
    (λ i reach. (
      to_old (Leaf i) (below some_new reach),
      λ e. col.apart (sym (byte_below room t x other_byte (Leaf i) sound_x some_new reach) ∙ ap (λ j. byte_at (t.depth x) (t.key j)) e ∙ byte_below room t x b (Leaf leaf) sound_x has_leaf at_leaf),
    ))
