-- From what the machines have found to where the end of a change may begin.
use Rattle.std.proofs.Common.{◌≡◌, ◌≢◌, ℕ, ◌+◌, ◌-◌, ◌/◌, ◌%◌, ◌^◌, ◌<◌, ◌==◌, true, false, cond, Some, None, refl, sym, subst, ap, ◌∙◌}
use Rattle.cat_key.specs.declared.TheConstants.{WORDS}
use Rattle.radix_nodes.specs.Bytes.{byte_set}
use Rattle.radix_nodes.specs.Cells.{children, IsForm, index_of}
use Rattle.radix_nodes.specs.Changes.{with_word, IsCellStore}
use Rattle.radix_nodes.proofs.IndexForm.{child_none, index_goes}
use Rattle.tree_law.specs.Trees.{Nothing, Leaf, Cell, IsReached}
use Rattle.tree_law.specs.Switches.{Place, Root, Entry}
use Rattle.tree_law.specs.Words.{RootWord, CellWord, LayerWords, kind_of, number_of, reference_of, cell_in, tree_of, Stored}
use Rattle.tree_law.specs.Words as words
use Rattle.tree_law.proofs.Spans.{byte_small}
use Rattle.tree_law.proofs.PathLaw.{comes_place}
use Rattle.tree_look.specs.declared.look.Spot.{Spot}
use Rattle.tree_look.specs.LookLaws.{spot_word, IsOuter, in_cell, IsHeld}
use Rattle.tree_look.proofs.LookExact.{cells_same}
use Rattle.tree_look.proofs.EndLaw.{entry_of, key_is_set, cell_is_grown, pair_is_made, leaf_is_removed, cell_is_collapsed}
use Rattle.tree_change.specs.declared.finish.Target.TheVariants as target
use Rattle.tree_change.specs.Endings.{target_word}
use Rattle.tree_change.specs.Begins.{ClearBegins, UnindexBegins, spot_target, SetBegins, PairBegins, GrowBegins, RemoveBegins, CollapseBegins}
use Rattle.tree_change.proofs.CountedLaw.{two_are_more, one_is_more}
use Rattle.tree_change.proofs.EndingLaw.{switch_begins}

spot_is : (spot : Spot) → target_word (spot_target spot) ≡ spot_word spot
spot_is spot = elim (spot.cell == 0) as (λ a. target_word (cond a target.Root (target.Cell spot.cell spot.offset)) ≡ cond a RootWord (CellWord (kind_of spot.cell) (number_of spot.cell) spot.offset)) [ true ↦ refl | false ↦ refl ]

pub at_spot : (w w' : LayerWords) (spot : Spot) (word : ℕ) → Stored w w' (target_word (spot_target spot)) word → Stored w w' (spot_word spot) word
at_spot w w' spot word stored = subst (λ p. Stored w w' p word) (spot_is spot) stored

pub set_begins : SetBegins
set_begins count nodes before w key leaf word outer inner keeps found some_word most =
    switch_begins count nodes before w (target.Leaf leaf WORDS) word key (Some (word - 1)) keeps.same (λ w' stored. key_is_set count nodes w w' key leaf word outer inner keeps.lawful found some_word most stored)

pub pair_begins : PairBegins
pair_begins count nodes before w key node reference depth byte pair leaf spot keeps found filled is_pair is fits =
    switch_begins count nodes before w (spot_target spot) (spot.high + pair) key (Some node) keeps.same (λ w' stored.
    pair_is_made count nodes w w' key node reference depth byte pair leaf spot keeps.lawful found filled is_pair is fits (at_spot w w' spot (spot.high + pair) stored))

pub grow_begins : GrowBegins
grow_begins count nodes before w key node cell depth grown leaf spot keeps found filled is_grown is fits =
    switch_begins count nodes before w (spot_target spot) (spot.high + grown) key (Some node) keeps.same (λ w' stored.
    cell_is_grown count nodes w w' key node cell depth grown leaf spot keeps.lawful found filled is_grown is fits (at_spot w w' spot (spot.high + grown) stored))

pub collapse_begins : CollapseBegins
collapse_begins count nodes before w key leaf b reference outer inner keeps found not_root byte is one =
    let reached : IsReached (tree_of w) (Cell inner.cell) = inner_reached found.1.0 found.1.1 found.1.2 not_root in
    let more = one_is_more count nodes w inner.cell b reference keeps.lawful reached one in
    switch_begins count nodes before w (spot_target outer) (outer.high + reference) key None keeps.same (λ w' stored.
    cell_is_collapsed count nodes w w' key leaf b one.other reference outer inner keeps.lawful found not_root byte more.0 is more.1 more.2 (at_spot w w' outer (outer.high + reference) stored))
  where
    inner_reached : (place : Place) → IsHeld w key inner (2 ^ 16 + leaf) place → IsOuter w key outer inner place → place ≢ Root → IsReached (tree_of w) (Cell inner.cell)
    inner_reached Root held o not_root = absurd (not_root refl)
    inner_reached (Entry x c) held (in_cell {place = above} cell_held) not_root = comes_place (tree_of w) key (Entry inner.cell c) held.comes

pub remove_begins : RemoveBegins
remove_begins count nodes before w key leaf b offset word outer inner keeps found not_root byte two store =
    switch_begins count nodes before w (target.Cell inner.cell offset) word key None keeps.same (λ w' stored.
    leaf_is_removed count nodes w w' key leaf b outer inner keeps.lawful found not_root byte (two_are_more w inner.cell b two)
    (words.in_cell stored (subst (λ c'. IsCellStore (kind_of inner.cell) (cell_in w inner.cell) c' b 0) (cells_same w w' inner.cell offset word stored) store)))

pub clear_begins : ClearBegins
clear_begins count nodes before w key leaf b outer inner keeps found not_root byte plain two =
    let entry = entry_of w key leaf b outer inner found.1.0 found.1.1 found.1.2 found.2 not_root byte in
    switch_begins count nodes before w (spot_target inner) 0 key None keeps.same (λ w' stored.
    leaf_is_removed count nodes w w' key leaf b outer inner keeps.lawful found not_root byte (two_are_more w inner.cell b two)
    (found.1.1.clears inner.cell b entry.here plain w' (at_spot w w' inner 0 stored)))

pub unindex_begins : UnindexBegins
unindex_begins count nodes before w key leaf b index outer inner keeps found not_root byte four is two =
    let c = cell_in w inner.cell in
    let entry = entry_of w key leaf b outer inner found.1.0 found.1.1 found.1.2 found.2 not_root byte in
    let small : b < 256 = subst (λ k. k < 256) (sym byte) (byte_small ((tree_of w).depth inner.cell) key) in
    let form : IsForm 4 c = subst (λ k. IsForm k c) four (keeps.lawful.forms inner.cell entry.reached) in
    let some_index : index_of c b ≢ 0 = λ none.
    let no_child : (tree_of w).child inner.cell b ≡ Nothing = ap (λ k. reference_of (children k c b)) four ∙ ap reference_of (child_none c b small none) in
    let wrong : Nothing ≡ Leaf leaf = sym no_child ∙ entry.leaf_is in
    cc in
    let goes : IsCellStore 4 c (with_word c (8 + b / 8) (byte_set index (b % 8) 0)) b 0 = subst (λ v. IsCellStore 4 c (with_word c (8 + b / 8) (byte_set v (b % 8) 0)) b 0) (sym is) (index_goes c b form small some_index) in
    remove_begins count nodes before w key leaf b (8 + b / 8) (byte_set index (b % 8) 0) outer inner keeps found not_root byte two
    (subst (λ k. IsCellStore k c (with_word c (8 + b / 8) (byte_set index (b % 8) 0)) b 0) (sym four) goes)
