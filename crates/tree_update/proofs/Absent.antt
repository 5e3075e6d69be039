-- A key whose way ends beside it leads nowhere; and a cell of the tree has another child than one.
use Rattle.std.proofs.Common.{◌≡◌, ◌≢◌, ℕ, ◌+◌, ◌*◌, ◌<◌, cond, None, inl, inr, sym, subst, ap, ◌∙◌, arith}
use Rattle.std.proofs.lemmas.Bool.{cases_eq, eq-eqb, ne_eqb}
use Rattle.radix_nodes.specs.Keys.{key_bytes}
use Rattle.radix_nodes.specs.Cells.{children}
use Rattle.layer_map.specs.Layers.{Layer, AreSame, changed_at}
use Rattle.tree_law.specs.Trees.{Reference, Nothing, Leaf, Cell, Tree, Room, Reaches, here, IsReached, IsCell, IsSoundFrom, first_bytes, byte_at, low, depth_of}
use Rattle.tree_law.specs.Switches.{Place, Entry, reference_at}
use Rattle.tree_law.specs.Paths.{Comes, PartsAt}
use Rattle.tree_law.specs.Words.{LayerWords, kind_of, reference_of, cell_in, tree_of, room_of, layer_of, IsLawful}
use Rattle.tree_law.proofs.Spans.{bytes_told, first_next, fewer_alike, byte_small, span_pos}
use Rattle.tree_law.proofs.Reach.{below_child}
use Rattle.tree_law.proofs.Avoiding.{join}
use Rattle.tree_law.proofs.TreeLaw.{some_or_none, has_key}
use Rattle.tree_law.proofs.FloorLaw.{via_child, none_reached, leaf_reaches}
use Rattle.tree_law.proofs.PathLaw.{way_leads}
use Rattle.tree_update.specs.declared.change.Site.{Site}
use Rattle.tree_update.specs.declared.change.Site.TheVariants as site
use Rattle.tree_update.specs.Knowns.{IsSited}
use Rattle.tree_update.proofs.Staying.{held_reached}

-- keys below a cell have its first bytes
first_below : (room : Room) (t : Tree) (x i : ℕ) → IsSoundFrom room t (Cell x) → Reaches t (Cell x) (Leaf i) → first_bytes (t.depth x) (t.key i) ≡ first_bytes (t.depth x) (t.prefix x)
first_below room t x i sound reach =
    let via = via_child t x i reach in
    let cell : IsCell room t x = sound (Cell x) here in
    let part = below_child room t x via.byte (Leaf i) sound via.some_child via.reach in
    let d = t.depth x in
    let f = first_bytes d (t.prefix x) in
    let lt : d < key_bytes = cell.depth in
    let low_is = part.low in
    let high_is = part.high in
    let small : via.byte < 256 = (cell.under via.byte via.some_child).byte in
    let own = byte_small d (t.key i) in
    let told : first_bytes (d + 1) (t.key i) ≡ 256 * f + via.byte = bytes_told d (t.prefix x) (t.key i) f via.byte lt cell.zeros low_is (let pos = span_pos key_bytes in omega arith) in
    let next = first_next d (t.key i) lt in
    omega arith

-- what parts from a key isn't above a leaf with it
parts_none : (room : Room) (t : Tree) (q : Reference) (key depth i : ℕ) → IsSoundFrom room t q → PartsAt depth key (low t q) → depth < depth_of t q → t.key i ≡ key → Reaches t q (Leaf i) → ⊥
parts_none room t Nothing key depth i sound parts less key_is reach = none_reached t i reach
parts_none room t (Leaf j) key depth i sound parts less key_is reach = parts.apart (ap (byte_at depth) (sym key_is ∙ ap t.key (sym (leaf_reaches t j i reach))))
parts_none room t (Cell x) key depth i sound parts less key_is reach =
    let cell : IsCell room t x = sound (Cell x) here in
    let deep : t.depth x < key_bytes = cell.depth in
    let same : first_bytes (t.depth x) key ≡ first_bytes (t.depth x) (t.prefix x) = ap (first_bytes (t.depth x)) (sym key_is) ∙ first_below room t x i sound reach in
    let fewer : first_bytes (depth + 1) key ≡ first_bytes (depth + 1) (t.prefix x) = fewer_alike (depth + 1) (t.depth x) key (t.prefix x) (omega arith) (omega arith) same in
    let one = first_next depth key (omega arith) in
    let two = first_next depth (t.prefix x) (omega arith) in
    let before = parts.same in
    parts.apart (omega arith)

absent : (count nodes : ℕ) (w : LayerWords) (key : ℕ) (place : Place) → IsLawful count nodes w → Comes (tree_of w) key place → ((i : ℕ) → (tree_of w).key i ≡ key → Reaches (tree_of w) (reference_at (tree_of w) place) (Leaf i) → ⊥) → layer_of w key ≡ None
absent count nodes w key place lawful comes none = elim (some_or_none (layer_of w key)) [
  | inr is ↦ is
  | inl leads ↦
      let t = tree_of w in
      let has = has_key (room_of count nodes) t key leads.0 leads.1 in
      absurd (none has.0 has.1.key_is (way_leads (room_of count nodes) t place key has.0 lawful.tree comes has.1.reached has.1.key_is))
]

pub sited_absent : (count nodes : ℕ) (w : LayerWords) (key : ℕ) (place : Site) → IsLawful count nodes w → IsSited w key place → layer_of w key ≡ None
sited_absent count nodes w key (site.Under spot cell byte) lawful sited =
    let t = tree_of w in
    let depth = sited.0 in
    let found = sited.1 in
    absent count nodes w key (Entry cell (byte_at depth key)) lawful found.2 (λ i key_is reach. none_reached t i (subst (λ r. Reaches t r (Leaf i)) found.3 reach))
sited_absent count nodes w key (site.Beside spot reference depth byte) lawful found =
    let t = tree_of w in
    let held = found.0.1 in
    let q = reference_of reference in
    let reached = held_reached w key reference spot found.0.0 held in
    absent count nodes w key found.0.0 lawful held.comes (λ i key_is reach. parts_none (room_of count nodes) t q key depth i (λ s way. lawful.tree s (joined t q s reached way)) found.1 found.2 key_is (subst (λ r. Reaches t r (Leaf i)) held.at reach))
  where
    joined : (t : Tree) (q s : Reference) → IsReached t q → Reaches t q s → IsReached t s
    joined t q s one two = join t one two

-- so taking it out changes nothing
pub none_changed : (layer before : Layer) (key : ℕ) → AreSame layer before → layer key ≡ None → AreSame layer (changed_at before key None)
none_changed layer before key same none other = elim (cases_eq other key) [
  | inl is ↦ ap layer is ∙ none ∙ sym (ap (λ a. cond a None (before other)) (eq-eqb other key is))
  | inr apart ↦ same other ∙ sym (ap (λ a. cond a None (before other)) (ne_eqb other key apart))
]

-- a cell of the tree has another child
pub other_child : (count nodes : ℕ) (w : LayerWords) (x b : ℕ) → IsLawful count nodes w → IsReached (tree_of w) (Cell x) → ((c : ℕ) → c ≢ b → children (kind_of x) (cell_in w x) c ≡ 0) → ⊥
other_child count nodes w x b lawful reached none =
    let two = (lawful.tree (Cell x) reached).two in
    elim (cases_eq two.one b) [
      | inl is ↦ two.has_two (ap reference_of (none two.two (λ e. two.apart (is ∙ sym e))))
      | inr apart ↦ two.has_one (ap reference_of (none two.one apart))
    ]
