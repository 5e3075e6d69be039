-- What a filled leaf and a filled pair say of the tree.
use Rattle.std.proofs.Common.{◌≡◌, ℕ, ◌+◌, ◌/◌, ◌%◌, ◌^◌, ◌<◌, ◌≤◌, ◌==◌, ◌&&◌, leb, cond, slice_index, sym, subst, ap, ap₂, ◌∙◌, arith, lt-ltb}
use Rattle.std.proofs.lemmas.Bool.{eq-eqb, ne_eqb}
use Rattle.pm_words.specs.Offsets.{prefix_offset}
use Rattle.cat_key.specs.declared.TheConstants.{WORDS}
use Rattle.radix_nodes.specs.Keys.{key_bytes}
use Rattle.radix_nodes.specs.Cells.{children, IsForm, words_of}
use Rattle.radix_nodes.specs.Fills.{leaf_value}
use Rattle.tree_law.specs.Trees.{Nothing, Leaf, Cell, byte_at, low}
use Rattle.tree_law.specs.Words.{kind_of, number_of, reference_of, cell_in, tree_of}
use Rattle.tree_law.proofs.WordLaw.{words_alike}
use Rattle.layer_map.specs.Keys.{key_number}
use Rattle.tree_floor.proofs.KeyNumbers.{number_below, prefix_is_of_number}
use Rattle.tree_change.specs.Filled.{LeafIsFilled, PairIsFilled}
use Rattle.tree_change.proofs.CellsAlike.{children_alike, form_alike}

pub leaf_is_filled : LeafIsFilled
leaf_is_filled count nodes w key node leaf is_key within node_within stands =
    let word_of_key : (k : ℕ) → k < WORDS → leaf_value (slice_index key) node k ≡ slice_index key k = λ k lt. ap (λ t. cond t (slice_index key k) (cond (k == 3) (node + 1) 0)) (lt-ltb k 3 lt) in
    let key_is : (tree_of w).key leaf ≡ key_number key = words_alike (w.leaf leaf) (slice_index key) (λ k lt. stands k (omega arith) ∙ word_of_key k lt) in
    let word_is : (tree_of w).word leaf ≡ node + 1 = stands WORDS (omega arith) in
    let small : key_number key < 256 ^ key_bytes = number_below (slice_index key) is_key.fits in
    record {
      sound = record {
        number = within;
        key = subst (λ k. k < 256 ^ key_bytes) (sym key_is) small;
        some_node = λ e. let wrong : node + 1 ≡ 0 = sym word_is ∙ e in omega arith;
        node = subst (λ k. k ≤ nodes) (sym word_is) (let most : node + 1 ≤ nodes = omega arith in most);
      };
      key_is = key_is;
      word = word_is;
    }

pub leaf_reference : (leaf : ℕ) → leaf < 2 ^ 16 → reference_of (2 ^ 16 + leaf) ≡ Leaf leaf
leaf_reference leaf small =
    ap₂ (λ a b. cond a Nothing (cond b (Leaf ((2 ^ 16 + leaf) % 2 ^ 16)) (Cell (2 ^ 16 + leaf)))) (ne_eqb (2 ^ 16 + leaf) 0 (λ e. omega arith)) (eq-eqb ((2 ^ 16 + leaf) / 2 ^ 16) 1 (let is : (2 ^ 16 + leaf) / 2 ^ 16 ≡ 1 = omega arith in is))
    ∙ ap Leaf (let is : (2 ^ 16 + leaf) % 2 ^ 16 ≡ leaf = omega arith in is)

pub pair_is_filled : PairIsFilled
pair_is_filled count nodes w key prefix reference depth x leaf pair is_key two within small fits is_prefix ends is_pair stands =
    let deep : depth < key_bytes = subst (λ d. d < key_bytes) is_pair.depth_is (is_pair.sound ends).lawful.depth in
    let form : IsForm 2 (words_of pair) = subst (λ k. IsForm k (words_of pair)) is_pair.kind (is_pair.sound ends).lawful.form in
    let alike = children_alike 2 (words_of pair) (cell_in w x) (omega arith) (omega arith) stands form in
    let child : (b : ℕ) → children (kind_of x) (cell_in w x) b ≡ children pair.kind (words_of pair) b = λ b. ap (λ k. children k (cell_in w x) b) two ∙ alike b ∙ ap (λ k. children k (words_of pair) b) (sym is_pair.kind) in
    record {
      number = ap₂ (λ k m. leb 2 k && leb k 5 && m) two (lt-ltb (number_of x) count within);
      depth_is = stands 0 (omega arith) ∙ is_pair.depth_is;
      prefix_is = words_alike (λ k. cell_in w x (prefix_offset + k)) prefix (λ k lt. stands (prefix_offset + k) (omega arith) ∙ is_pair.prefix_is k lt) ∙ prefix_is_of_number depth (slice_index key) prefix is_key.fits fits deep is_prefix;
      old = ap reference_of (child (byte_at depth (low (tree_of w) (reference_of reference))) ∙ is_pair.has_one);
      new = ap reference_of (child (byte_at depth (key_number key)) ∙ is_pair.has_two) ∙ leaf_reference leaf small;
      only = λ b not_old not_new. ap reference_of (child b ∙ is_pair.only b not_old not_new);
      form = subst (λ k. IsForm k (cell_in w x)) (sym two) (form_alike 2 (words_of pair) (cell_in w x) (omega arith) (omega arith) stands form);
    }
