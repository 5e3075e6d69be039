-- What a part of a scan lists that is made with no other call in flight: names of the member of its low name, up to the
-- next member's anchor.
use Rattle.std.proofs.Common.{◌≡◌, ℕ, ◌+◌, ◌<◌, Bool, true, false, not, ◌&&◌, List, [], ◌∷◌, ◌++◌, inl, inr, ◌⊎◌}
use Rattle.std.proofs.Common.{⊎_elim, length, map, slice_get, refl, sym, ap, ◌∙◌, subst, arith}
use Rattle.std.specs.Prelude.{Option, Some, None, IfSome}
use Rattle.std.specs.FinMap.{entries, keys}
use Rattle.std.specs.List.{filter, AllByRecursion}
use Rattle.std.proofs.lemmas.Bool.{eq-eqb}
use Rattle.std.proofs.lemmas.List.{length-map, take_all}
use Rattle.pm_words.specs.declared.layout.Layout.{Layout}
use Rattle.cat_key.specs.Names.{IsName}
use Rattle.cat_history.specs.Maps.{Map, at, map_of}
use Rattle.cat_history.specs.Scans.{is_under}
use Rattle.cat_history.specs.Writes.{after, after_all}
use Rattle.cat_history.specs.declared.op.NameOp.TheVariants as op
use Rattle.shapes.specs.Anchors as shape
use Rattle.shapes.specs.Anchors.{Anchors, below, names_at, next_of}
use Rattle.shapes.proofs.Orders.{true_or_false, clash, not_itself, not_back, upto-chain, empty_first, neither, same-is}
use Rattle.shapes.proofs.NameLists.{all_second, filter-keeps, filter-drops}
use Rattle.shapes.proofs.Targets.{part, target-is, next-is}
use Rattle.data_node.specs.Lists.{ListNode, key_of, range_in, target_from}
use Rattle.index_law.specs.Anchors.{anchors_in, anchors_of, text_of_key}
use Rattle.index_law.specs.Facts.{Facts, list_in, map_now, range_of, version_in}
use Rattle.index_law.proofs.Rows.{version_in-here}
use Rattle.index_law.specs.Laws.{IsAtRest}
use Rattle.index_law.specs.Lawful.{HasNames, IsList}
use Rattle.index_law.specs.Worlds.{Party, World, facts}
use Rattle.index_law.proofs.Anchored.{Named, texts, list_has_anchors, ranges_are_members}
use Rattle.index_law.proofs.AnchorTexts.{key-back}
use Rattle.index_law.proofs.Cutting.{range-names}
use Rattle.node_ops.specs.declared.part.PartWords.{PartWords}
use Rattle.node_ops.specs.declared.part.ReadingAt.{ReadingAt}
use Rattle.node_ops.specs.declared.part.ReadingAt.TheVariants as reading_at
use Rattle.node_ops.specs.declared.part.Part.{Part}
use Rattle.node_ops.specs.declared.part.Reading.{Reading}
use Rattle.node_ops.specs.declared.part.Way.{Way}
use Rattle.node_ops.specs.declared.part.Way.TheVariants as ways
use Rattle.node_ops.specs.declared.call.Call.{Call}
use Rattle.node_ops.specs.Calls.{name_in}
use Rattle.permutation_law.specs.Permuted.{made_at}
use Rattle.lone_hops_law.specs.lone_call_law.specs.There.{IsAtNode}
use Rattle.lone_hops_law.specs.lone_call_law.proofs.Went.{free_come}
use Rattle.node_ops.specs.declared.part.Part.TheVariants as part_at
use Rattle.node_ops.specs.declared.running.Running.{Running}
use Rattle.node_ops.specs.declared.running.Running.TheVariants.{Getting, Putting, Deleting, Parting}
use Rattle.node_ops.specs.Asked.{IsOf}
use Rattle.node_ops.specs.PartSteps.{IsFreely, IsPart, IsReading, IsReadingAt, listed_at, part_asks, part_call}
use Rattle.node_ops.specs.PartSteps.{part_listed, part_words, reading_at_asks, version_at}
use Rattle.node_ops.specs.Permuting.{PermutationRead, part_reading, reading_of, way_reading}
use Rattle.pm_words.specs.declared.action.Action.TheVariants.{Load, Store}
use Rattle.pm_words.specs.Rows.{acted, got}
use Rattle.call_stages.specs.Kinds.{version_address}
use Rattle.node_ops.proofs.PartListing.{listed_is_told}
use Rattle.node_ops.specs.Parts.{Confirms, EndsAt, HasCompared, pairs_in}
use Rattle.node_ops.specs.RunningSteps.{IsRunning, listed_in, running_asks, running_call}
use Rattle.lone_hops_law.specs.lone_call_law.specs.LoneCalls.{IsMadeNow, IsThere, LoneCall, PartIsThere, WayIsThere}
use Rattle.lone_hops_law.specs.lone_call_law.proofs.Served.{lone_parts_are_served}
use Rattle.index_core.specs.Indexes.{Index, world, map_of_index, IsIndex}
use Rattle.index_core.specs.Listings.{IsPartAt, ListsRange}
use Rattle.index_core.specs.Lone.{HasNoCalls, IsWholePart, SortsIfStale, node_for}
use Rattle.lone_hops_law.specs.lone_call_law.specs.There.{WalksBy}
use Rattle.index_core.proofs.PartFacts.{lists_range}
use Rattle.index_core.proofs.Quiet.{rests}

-- the end of a range is past it
past_end : (in_range : List ℕ → Bool) (low high : List ℕ) → EndsAt in_range low (Some high) → in_range high ≡ false
past_end in_range low high is = is.ends high is.above.0 (not_back low high is.above.1) ∙ not_itself high

-- a range from a name on has one end
ends_once : (in_range : List ℕ → Bool) (low : List ℕ) (one two : Option (List ℕ)) → EndsAt in_range low one → EndsAt in_range low two → one ≡ two
ends_once in_range low None None is so = refl
ends_once in_range low (Some a) None is so = clash (so.ends a is.above.0 (not_back low a is.above.1)) (past_end in_range low a is)
ends_once in_range low None (Some b) is so = clash (is.ends b so.above.0 (not_back low b so.above.1)) (past_end in_range low b so)
ends_once in_range low (Some a) (Some b) is so =
    let not_below : below a b ≡ false = sym (so.ends a is.above.0 (not_back low a is.above.1)) ∙ past_end in_range low a is in
    let not_above : below b a ≡ false = sym (is.ends b so.above.0 (not_back low b so.above.1)) ∙ past_end in_range low b so in
    ap (λ (x : List ℕ). Some x) (same-is a b (neither a b not_below not_above))

same_under : (high : Option (List ℕ)) (name : List ℕ) → shape.is_under high name ≡ is_under high name
same_under None name = refl
same_under (Some high) name = refl

-- the texts of anchors are the empty one and names
abbrev IsAnchorText : List ℕ → Type 0
IsAnchorText text = (text ≡ []) ⊎ IsName text

named_texts : (list : List ListNode) → Named list → AllByRecursion IsAnchorText (texts list)
named_texts [] named = tt
named_texts (m ∷ behind) named =
    (inr (subst IsName (sym (ap text_of_key named.0.2 ∙ key-back named.0.0 named.0.1)) named.0.1), named_texts behind named.1)

-- the first of those above a name is a name
first_above : (low : List ℕ) (anchors : Anchors) → AllByRecursion IsAnchorText anchors → AllByRecursion (λ (anchor : List ℕ). below low anchor ≡ true) anchors
    → IfSome (slice_get anchors 0) (λ high. IsName high × (below low high ≡ true))
first_above low [] named above = tt
first_above low (anchor ∷ behind) named above =
    (⊎_elim (λ (empty : anchor ≡ []). clash above.0 (subst (λ (text : List ℕ). below low text ≡ false) (sym empty) (empty_first low))) (λ (is : IsName anchor). is) named.0, above.0)

-- a node's range from one of its names on ends at the next member's anchor
next_ends : (l : Layout) (f : Facts) (n : ℕ) (low : List ℕ) → IsList l f → IsName low → range_of l f n low ≡ true → EndsAt (range_of l f n) low (next_of (anchors_of f.list) low)
next_ends l f n low list named inside =
    let anchors : Anchors = anchors_of f.list in
    let p = part anchors low (list_has_anchors l f list) in
    let all : AllByRecursion IsAnchorText (p.before ++ p.low ∷ p.after) = subst (AllByRecursion IsAnchorText) p.is (inl refl, named_texts f.list list.named) in
    record {
      above = subst (λ (high : Option (List ℕ)). IfSome high (λ h. IsName h × (below low h ≡ true))) (sym (next-is anchors low p))
          (first_above low p.after (all_second IsAnchorText p.before (p.low ∷ p.after) all).1 p.above);
      ends = λ name is from.
          ranges_are_members l f n low name list named is inside
          ∙ ap (λ (b : Bool). not b && shape.is_under (next_of anchors low) name) (ap (λ (anchor : List ℕ). below name anchor) (target-is anchors low p) ∙ upto-chain p.low low name p.at_most from)
          ∙ same_under (next_of anchors low) name;
    }

-- as many entries as keys
as_many : (test : List ℕ → Bool) (es : List (List ℕ × ℕ)) → length (filter (λ (e : List ℕ × ℕ). test e.0) es) ≡ length (filter test (map (λ (e : List ℕ × ℕ). e.0) es))
as_many test [] = refl
as_many test (e ∷ es) =
    let more = as_many test es in
    ⊎_elim
    (λ (is : test e.0 ≡ true).
    let one = ap length (filter-keeps (λ (d : List ℕ × ℕ). test d.0) e es is) in
    let other = ap length (filter-keeps test e.0 (map (λ (d : List ℕ × ℕ). d.0) es) is) in
    omega arith)
    (λ (isnt : test e.0 ≡ false).
    let one = ap length (filter-drops (λ (d : List ℕ × ℕ). test d.0) e es isnt) in
    let other = ap length (filter-drops test e.0 (map (λ (d : List ℕ × ℕ). d.0) es) isnt) in
    omega arith)
    (true_or_false (test e.0))

pairs_are_names : (m : Map) (test : List ℕ → Bool) → length (pairs_in m test) ≡ length (filter test (keys m))
pairs_are_names m test = length-map (filter (λ (e : List ℕ × ℕ). test e.0) (entries m)) _ ∙ as_many test (entries m)

-- A part that has listed is at its node.
record IsListing (l : Layout) (words0 words : List ℕ) (p : Part) (listing : PartWords) : Type 0 where
  reading : Reading
  is : p ≡ part_at.Reading reading
  lists : part_words reading ≡ listing
  there : WayIsThere l words0 words reading.call reading.hold.locked reading.way
  ends : (reading.at ≡ reading_at.Check) ⊎ (reading.at ≡ reading_at.Unlock)

is_listing : (l : Layout) (words0 words : List ℕ) (p : Part) (listing : PartWords) → part_listed p ≡ Some listing → PartIsThere l words0 words p → IsListing l words0 words p listing
is_listing l words0 words (part_at.Looking lookup count) listing lists there = absurd (cc)
is_listing l words0 words (part_at.Ordering call seen count load) listing lists there = absurd (cc)
is_listing l words0 words (part_at.Locking call seen count locked) listing lists there = absurd (cc)
is_listing l words0 words (part_at.Dating call seen count way) listing lists there = absurd (cc)
is_listing l words0 words (part_at.Reading reading) listing lists there = at reading.at refl lists
  where
    with_end : part_words reading ≡ listing → (reading.at ≡ reading_at.Check) ⊎ (reading.at ≡ reading_at.Unlock) → IsListing l words0 words (part_at.Reading reading) listing
    with_end same ends = record { reading = reading; is = refl; lists = same; there = there; ends = ends }

    at : (a : ReadingAt) → reading.at ≡ a → listed_at reading a ≡ Some listing → IsListing l words0 words (part_at.Reading reading) listing
    at reading_at.Clock is none = absurd (cc)
    at reading_at.Bitmap is none = absurd (cc)
    at (reading_at.Load slot word) is none = absurd (cc)
    at (reading_at.Store store) is none = absurd (cc)
    at reading_at.Check is some = with_end (cc) (inl is)
    at reading_at.Unlock is some = with_end (cc) (inr is)

-- the node of it is the target of its low name
way_node : (l : Layout) (words0 words : List ℕ) (call : Call) (word : ℕ) (way : Way) → WayIsThere l words0 words call word way → IsAtNode l words0 call
way_node l words0 words call word (ways.Served order) there = there.0.0
way_node l words0 words call word (ways.Held order) there = there.0.0
way_node l words0 words call word ways.Alone there = there.0.0

pub listed_node : (l : Layout) (words0 words : List ℕ) (low : List ℕ) (m : Running) (listing : PartWords) → listed_in m ≡ Some listing → IsOf (op.Get low) m → IsThere l words0 words m → listing.node ≡ target_from 0 (list_in l words0) (key_of low)
listed_node l words0 words low (Getting get) listing none of there = absurd (cc)
listed_node l words0 words low (Putting put) listing none of there = absurd (cc)
listed_node l words0 words low (Deleting del) listing none of there = absurd (cc)
listed_node l words0 words low (Parting p) listing some of there =
    let listed = is_listing l words0 words p listing some there in
    let named : name_in listed.reading.call ≡ low = ap (λ (q : Part). name_in (part_call q)) (sym listed.is) ∙ of in
    sym (ap (λ (w : PartWords). w.node) listed.lists) ∙ (way_node l words0 words listed.reading.call listed.reading.hold.locked listed.reading.way listed.there).node ∙ ap (λ (name : List ℕ). target_from 0 (list_in l words0) (key_of name)) named

-- without the lock it tells the word that it saw, which it loads again; with it the word that it stores
pub listed_word : (l : Layout) (words0 words : List ℕ) (m : Running) (listing : PartWords) → listed_in m ≡ Some listing → IsThere l words0 words m → IsRunning m → (running_call m).view.layout ≡ l → Confirms m (got l words (running_asks m)) listing
listed_word l words0 words (Getting get) listing lists there sound layout = absurd (cc)
listed_word l words0 words (Putting put) listing lists there sound layout = absurd (cc)
listed_word l words0 words (Deleting del) listing lists there sound layout = absurd (cc)
listed_word l words0 words (Parting p) listing lists there sound layout =
    let listed = is_listing l words0 words p listing lists there in
    subst (λ (q : Part). Confirms (Parting q) (got l words (part_asks q)) listing) (sym listed.is)
    (by listed (subst IsPart listed.is sound) (ap (λ (q : Part). (part_call q).view.layout) (sym listed.is) ∙ layout))
  where
    by : (listed : IsListing l words0 words p listing) → IsReading listed.reading → listed.reading.call.view.layout ≡ l → Confirms (Parting (part_at.Reading listed.reading)) (got l words (reading_at_asks listed.reading.call listed.reading.hold listed.reading.at)) listing
    by listed sound here =
        let r = listed.reading in
        let node : listing.node ≡ r.call.node = sym (ap (λ (w : PartWords). w.node) listed.lists) in
        let version : listing.version ≡ version_at r.hold.locked r.at = sym (ap (λ (w : PartWords). w.version) listed.lists) in
        let within : r.call.node < l.nodes = subst (λ (m : Layout). r.call.node < m.nodes) here sound.call.node in
        ⊎_elim
        (λ (checks : r.at ≡ reading_at.Check).
        let free : IsFreely r.way = (subst (IsReadingAt r) checks sound.here).0 in
        let come = free_come l words0 words r.call r.hold.locked r.way free listed.there in
        let loads : reading_at_asks r.call r.hold r.at ≡ Load (version_address r.call.view.layout listing.node) = ap (reading_at_asks r.call r.hold) checks ∙ ap (λ (n : ℕ). Load (version_address r.call.view.layout n)) (sym node) in
        let loads_here : reading_at_asks r.call r.hold r.at ≡ Load (version_address l r.call.node) = loads ∙ (λ k. Load (version_address (here k) (node k))) in
        inl (loads, ap (got l words) loads_here ∙ ap (λ (ws : List ℕ). got l ws (Load (version_address l r.call.node))) come.1 ∙ sym (version_in-here l words0 r.call.node within) ∙ sym come.2 ∙ sym (version ∙ ap (version_at r.hold.locked) checks)))
        (λ (unlocks : r.at ≡ reading_at.Unlock).
        let word : version_at r.hold.locked r.at ≡ r.hold.locked + 1 = ap (version_at r.hold.locked) unlocks in
        inr (ap (reading_at_asks r.call r.hold) unlocks ∙ (λ k. Store (version_address r.call.view.layout (sym node k)) ((sym word ∙ sym version) k))))
        listed.ends

-- where its node's permutation was made at another version word, it sorts all names
way_sorts : (l : Layout) (words0 words : List ℕ) (call : Call) (word names : ℕ) (way : Way) (listing : PartWords) → WayIsThere l words0 words call word way → ¬ IsMadeNow l words0 call
    → HasCompared (way_reading call word way) names listing → listing.compared ≡ names
way_sorts l words0 words call word names (ways.Served order) listing there older compared = absurd (older there.1)
way_sorts l words0 words call word names (ways.Held order) listing there older compared = compared
way_sorts l words0 words call word names ways.Alone listing there older compared = compared

part_sorts : (l : Layout) (words0 words : List ℕ) (p : Part) (names : ℕ) (listing : PartWords) → part_listed p ≡ Some listing → PartIsThere l words0 words p → HasCompared (part_reading p) names listing
    → ¬ (made_at l words0 listing.node ≡ version_in l words0 listing.node) → listing.compared ≡ names
part_sorts l words0 words p names listing lists there compared older =
    let listed = is_listing l words0 words p listing lists there in
    way_sorts l words0 words listed.reading.call listed.reading.hold.locked names listed.reading.way listing listed.there
    (λ made. older (subst (λ (n : ℕ). made_at l words0 n ≡ version_in l words0 n) (ap (λ (w : PartWords). w.node) listed.lists) made))
    (subst (λ (q : Part). HasCompared (part_reading q) names listing) listed.is compared)

-- How many names a lone part has sorted, by whether its node's permutation was made at the node's version word.
pub record SortsSo (w0 w : World) (m : Running) (names : ℕ) (listing : PartWords) : Type 0 where
  pub served : made_at w0.layout w0.words listing.node ≡ version_in w0.layout w0.words listing.node → (listing.compared ≡ 0) × (acted w.layout w.words (running_asks m) ≡ w0.words)
  pub sorted : ¬ (made_at w0.layout w0.words listing.node ≡ version_in w0.layout w0.words listing.node) → listing.compared ≡ names

pub sorts_so : (w0 w : World) (i : ℕ) (low : List ℕ) (party : Party) (m : Running) (x names : ℕ) (listing : PartWords) → LoneCall w0 i (op.Get low) None w party m → listed_in m ≡ Some listing → Confirms m x listing
    → HasCompared (reading_of m) names listing → SortsSo w0 w m names listing
sorts_so w0 w i low party (Getting get) x names listing o lists confirms compared = absurd (cc)
sorts_so w0 w i low party (Putting put) x names listing o lists confirms compared = absurd (cc)
sorts_so w0 w i low party (Deleting del) x names listing o lists confirms compared = absurd (cc)
sorts_so w0 w i low party (Parting p) x names listing o lists confirms compared =
    let node = listed_node w0.layout w0.words w.words low (Parting p) listing lists o.of o.stands in
    record {
      served = λ made.
          (lone_parts_are_served w0 i (op.Get low) None w party p o (subst (λ (n : ℕ). made_at w0.layout w0.words n ≡ version_in w0.layout w0.words n) node made)).ends
          x listing (listed_is_told p listing lists x confirms);
      sorted = part_sorts w0.layout w0.words w.words p names listing lists o.stands compared;
    }

module _ (s0 s : Index) (reading : Option PermutationRead) (low : List ℕ) (count : ℕ) (words : PartWords) (is0 : IsIndex s0) (none : HasNoCalls s0) where
  abbrev l : Layout
  l = s0.layout

  abbrev f : Facts
  f = facts (world s0)

  abbrev n : ℕ
  n = node_for s0 low

  rest : IsAtRest (world s0)
  rest = rests s0 is0 none

  inside : range_of l f n low ≡ true
  inside = eq-eqb n n refl

  -- as many names as it may sort by what it has read
  abbrev SortsAs : Option PermutationRead → Type 0
  SortsAs reading = (names : ℕ) → HasCompared reading names words → SortsIfStale s0 s words.node names words

  -- where the map and the list are as before
  pub whole_part : s.base ≡ s0.base → s.history ≡ s0.history → (facts (world s)).list ≡ f.list → IsName low → words.node ≡ n → words.place ≡ length s0.history → WalksBy s0.layout s0.words low words.hops → words.old ≡ at (map_of_index s0) low
      → IsPartAt s.layout (facts (world s)) reading low count words → SortsAs reading → IsWholePart s0 low count s words
  whole_part base history list named node place hops old is sorts =
      let map_is : after (map_of s.base) s.history words.place ≡ map_of_index s0 =
      (λ k. after (map_of (base k)) (history k) (place k)) ∙ ap (after_all (map_of s0.base)) (take_all (length s0.history) s0.history (omega arith)) in
      let now_is : map_now (facts (world s)) ≡ map_of_index s0 = (λ k. after_all (map_of (base k)) (history k)) in
      let range : range_of s.layout (facts (world s)) words.node ≡ range_of l f n = λ k. range_in (list k) (node k) in
      let ends : EndsAt (range_of l f n) low words.high = subst (λ (r : List ℕ → Bool). EndsAt r low words.high) range is.ends in
      let names : HasNames (after (map_of s.base) s.history words.place) = subst HasNames (sym map_is) rest.named in
      record {
        node = node;
        version = is.version;
        place = place;
        hops = hops;
        old = old;
        high = ends_once (range_of l f n) low words.high (next_of (anchors_of f.list) low) ends (next_ends l f n low rest.list named inside);
        lists = subst (λ (m : Map). ListsRange m low count words) map_is (lists_range s.layout (facts (world s)) reading low count words named names is);
        compared =
            let names : length (pairs_in (map_now (facts (world s))) (range_of s.layout (facts (world s)) words.node)) ≡ length (names_at (map_of_index s0) (anchors_in (world s0)) low) =
            (λ k. length (pairs_in (now_is k) (range k)))
            ∙ pairs_are_names (map_of_index s0) (range_of l f n)
            ∙ ap length (range-names l f rest.list rest.named n low named inside) in
            sorts _ (subst (λ (m : ℕ). HasCompared reading m words) names is.compared);
      }
