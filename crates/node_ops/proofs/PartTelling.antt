-- What a part of a range scan tells is a part of the map.
use Rattle.std.proofs.Common.{◌≡◌, ℕ, zero, suc, ◌+◌, ◌-◌, ◌<◌, ◌≤◌, ◌==◌, ltb, Bool, true, false, not, cond, ◌&&◌, Option, Some, List, [], ◌∷◌, ◌++◌, length, take, map, set, inl, inr, ◌⊎◌, refl, sym, subst, ap, ◌∙◌, arith, append-nil}
use Rattle.std.specs.Int.{bit_at}
use Rattle.std.specs.FinMap.{entries}
use Rattle.std.specs.FinMap.Entries.{where_key}
use Rattle.std.specs.List.{filter, fold, AllByRecursion}
use Rattle.std.proofs.Math.Seq.{take-nil}
use Rattle.std.proofs.lemmas.Bool.{eqb-true, ltb-true, ltb-false}
use Rattle.std.proofs.lemmas.List.{take_more_set, take-map, length-map, append_assoc, length-set, length-replicate}
use Rattle.pm_words.specs.declared.layout.Layout.{Layout}
use Rattle.pm_words.specs.declared.action.Action.TheVariants.{Load}
use Rattle.pm_words.specs.declared.machine.Turn.{Turn}
use Rattle.pm_words.specs.declared.machine.Turn.TheVariants.{Go, Done}
use Rattle.cat_key.specs.Names.{IsName, AreNameWords, IsPacked, bytes_of, name_cmp}
use Rattle.cat_key.specs.declared.Pair.{Pair}
use Rattle.cat_history.specs.Maps.{Map, at as number_at}
use Rattle.cat_history.specs.Scans.{is_below}
use Rattle.cat_history.specs.Writes.{after}
use Rattle.data_node.specs.Spots.{Spot, Finds, Means}
use Rattle.data_node.specs.Lists.{number_of, key_of}
use Rattle.data_node.specs.Orders.{comes_before}
use Rattle.data_node.proofs.KeyLemmas.{key-number}
use Rattle.shapes.proofs.NameLists.{all_by, filter-twice}
use Rattle.index_law.specs.Facts.{Facts, map_now, range_of}
use Rattle.index_law.specs.Lawful.{HasNames, IsRead, Sure, SureHolds, SureReads}
use Rattle.data_node.specs.Lists.{StaysIn}
use Rattle.call_stages.specs.Stages.{Knows}
use Rattle.index_law.proofs.AnchorTexts.{key-order, named-text}
use Rattle.call_stages.specs.declared.once.Once.{Once}
use Rattle.call_stages.specs.declared.once.Once.TheVariants as once
use Rattle.pm_words.specs.declared.again.Again.TheVariants as again
use Rattle.pm_words.specs.Offsets.{bitmap_offset}
use Rattle.call_stages.specs.declared.once.Placed.{Placed}
use Rattle.call_stages.specs.Kinds.{version_address}
use Rattle.node_ops.specs.declared.call.Call.{Call}
use Rattle.node_ops.specs.declared.lookup.Looked.{Looked}
use Rattle.node_ops.specs.declared.lookup.Looked.TheVariants as looked
use Rattle.node_ops.specs.declared.lookup.Lookup.{Lookup}
use Rattle.data_list.specs.declared.target.Sighting.{Sighting}
use Rattle.data_list.specs.Walks.{high_of}
use Rattle.permutation.specs.declared.load.LoadPermutation.{LoadPermutation}
use Rattle.permutation.specs.Loads.{load_turned}
use Rattle.permutation.specs.Permutations.{IsPermutationOf}
use Rattle.permutation.specs.Stores.{words_first}
use Rattle.permutation_law.specs.Permuted.{permutation_in}
use Rattle.node_ops.specs.declared.part.Listing.{Listing}
use Rattle.node_ops.specs.declared.part.PartWords.{PartWords}
use Rattle.node_ops.specs.declared.part.Reading.{Reading}
use Rattle.node_ops.specs.declared.part.ReadingAt.{ReadingAt}
use Rattle.node_ops.specs.declared.part.ReadingAt.TheVariants as at
use Rattle.node_ops.specs.declared.part.Part.{Part}
use Rattle.node_ops.specs.declared.part.Part.TheVariants as part
use Rattle.node_ops.specs.declared.part.Way.{Way}
use Rattle.node_ops.specs.declared.part.Way.TheVariants as ways
use Rattle.node_ops.specs.declared.running.Running.TheVariants.{Parting}
use Rattle.node_ops.specs.Calls.{name_in}
use Rattle.node_ops.specs.LookupSteps.{lookup_turned}
use Rattle.node_ops.specs.PartSteps.{no_entry, no_listing, entry_in, entry_name, live_order, is_from, order_by, order_in, sorted_in, lists, listing_in, compared_by, version_at, part_call, part_words, part_checked, part_looked, part_held, part_locked, ordering_turned, early_of, IsFreely, IsPart, IsReading, reading_turned, part_turned, sorted_slots}
use Rattle.node_ops.specs.CallStages.{behind_sight, part_stage, reading_whole, slots_loaded, stage_by}
use Rattle.node_ops.specs.CallStages.{knows as words_known}
use Rattle.node_ops.specs.Permuting.{way_reading}
use Rattle.node_ops.specs.Parts.{HasCompared, IsPartTold, IsToldVersion, Relies, pair_of, pairs_in, IsPartOf, PartTells, IsHeard, PartsHear}
use Rattle.node_ops.proofs.PartLaw.{slots_say}
use Rattle.node_ops.proofs.PartOrder.{live_order_few}
use Rattle.node_ops.proofs.PartServed.{held_order, served_order}
use Rattle.node_ops.proofs.PartSound.{IsReadingBut, but}
use Rattle.node_ops.proofs.PartNames.{pair_at, all_good, packed, names_are}

module _ (reading : Reading) where
  abbrev entry : ℕ → List ℕ
  entry slot = entry_in reading.entries slot

  -- the slot's name isn't below the low one
  abbrev keeps : ℕ → Bool
  keeps slot = is_from reading (entry slot)

  abbrev more : Listing → ℕ → Listing
  more listing slot = record { len = listing.len + 1; entries = set listing.entries listing.len (entry slot) }

  -- it lists one name more at most for each slot
  lists_few : (xs : List ℕ) (listing : Listing) → (fold (lists reading) listing xs).len ≤ listing.len + length xs
  lists_few [] listing = omega arith
  lists_few (x ∷ xs) listing =
      elim (ltb listing.len reading.count && keeps x) as (λ b. (fold (lists reading) (cond b (more listing x) listing) xs).len ≤ listing.len + suc (length xs)) [
        | true ↦ let rest = lists_few xs (more listing x) in omega arith
        | false ↦ let rest = lists_few xs listing in omega arith
      ]

  -- it lists the first that it keeps
  lists_first : (xs : List ℕ) (listing : Listing) → listing.len + length xs ≤ length listing.entries
      → take (fold (lists reading) listing xs).len (fold (lists reading) listing xs).entries ≡ take listing.len listing.entries ++ take (reading.count - listing.len) (map entry (filter keeps xs))
  lists_first [] listing room = sym (append-nil (take listing.len listing.entries)) ∙ ap (λ (ys : List (List ℕ)). take listing.len listing.entries ++ ys) (sym (take-nil (reading.count - listing.len)))
  lists_first (x ∷ xs) listing room =
      let had = take listing.len listing.entries in
      let rest = filter keeps xs in
      elim (ltb listing.len reading.count) as (λ b. ltb listing.len reading.count ≡ b
      → take (fold (lists reading) (cond (b && keeps x) (more listing x) listing) xs).len (fold (lists reading) (cond (b && keeps x) (more listing x) listing) xs).entries
      ≡ had ++ take (reading.count - listing.len) (map entry (cond (keeps x) (x ∷ rest) rest))) [
        | false ↦ λ full.
            let most : reading.count ≤ listing.len = ltb-false _ _ full in
            let none : reading.count - listing.len ≡ 0 = omega arith in
            lists_first xs listing (omega arith)
            ∙ ap (λ n. had ++ take n (map entry rest)) none ∙ ap (λ n. had ++ take n (map entry (cond (keeps x) (x ∷ rest) rest))) (sym none)
        | true ↦ λ less. elim (keeps x) as (λ b. take (fold (lists reading) (cond b (more listing x) listing) xs).len (fold (lists reading) (cond b (more listing x) listing) xs).entries
            ≡ had ++ take (reading.count - listing.len) (map entry (cond b (x ∷ rest) rest))) [
              | false ↦ lists_first xs listing (omega arith)
              | true ↦
                  let under : listing.len < reading.count = ltb-true _ _ less in
                  let one : reading.count - listing.len ≡ suc (reading.count - (listing.len + 1)) = omega arith in
                  let size = length-set listing.entries listing.len (entry x) in
                  lists_first xs (more listing x) (omega arith)
                  ∙ ap (λ (ys : List (List ℕ)). ys ++ take (reading.count - (listing.len + 1)) (map entry rest)) (take_more_set listing.entries listing.len (entry x) (omega arith))
                  ∙ append_assoc had (entry x ∷ []) (take (reading.count - (listing.len + 1)) (map entry rest))
                  ∙ ap (λ n. had ++ take n (map entry (x ∷ rest))) (sym one)
            ]
      ] refl

-- what holds of each slot's words holds of those that are kept, and of the first of them
all_kept : (reading : Reading) (P : List ℕ → Type 0) (xs : List ℕ) → AllByRecursion (λ slot. P (entry reading slot)) xs → AllByRecursion P (map (entry reading) (filter (keeps reading) xs))
all_kept reading P [] all = tt
all_kept reading P (x ∷ xs) all =
    let rest = all_kept reading P xs all.1 in
    elim (keeps reading x) as (λ b. AllByRecursion P (map (entry reading) (cond b (x ∷ filter (keeps reading) xs) (filter (keeps reading) xs)))) [
      | true ↦ (all.0, rest)
      | false ↦ rest
    ]

all_first : (P : List ℕ → Type 0) (n : ℕ) (xs : List (List ℕ)) → AllByRecursion P xs → AllByRecursion P (take n xs)
all_first P zero xs all = tt
all_first P (suc n) [] all = tt
all_first P (suc n) (x ∷ xs) all = (all.0, all_first P n xs all.1)

abbrev to_pair : List ℕ × ℕ → Pair
to_pair e = record { name = e.0; value = e.1 }

-- what a reading tells is a part of the map, as it is and as it was
pub record TellsPart (l : Layout) (f : Facts) (reading : Reading) (words : PartWords) : Type 0 where
  pub now : IsPartOf (map_now f) (range_of l f words.node) (name_in reading.call) reading.count words
  pub then_was : IsPartOf (after f.base f.history words.place) (range_of l f words.node) (name_in reading.call) reading.count words
  pub compared : HasCompared (way_reading reading.call reading.hold.locked reading.way) (length (pairs_in (map_now f) (range_of l f words.node))) words
  pub fit : length (pairs_in (after f.base f.history words.place) (range_of l f words.node)) ≤ l.slots

-- What a part knows of its node that has all words of its live slots.
pub record KnowsAll (reading : Reading) (f : Facts) : Type 0 where
  pub means : Means reading.call.view.layout.slots (range_of reading.call.view.layout f reading.call.node) (f.now reading.call.node) (map_now f)
  pub stays : StaysIn reading.call.view.layout.slots (range_of reading.call.view.layout f reading.call.node) (f.now reading.call.node)
  pub inside : range_of reading.call.view.layout f reading.call.node (name_in reading.call) ≡ true
  pub knows : Knows (name_in reading.call) (words_known ((bitmap_offset, reading.bitmap) ∷ slots_loaded reading.entries reading.bitmap reading.call.view.layout.slots)) (f.now reading.call.node)
  pub old : number_at (map_now f) (name_in reading.call) ≡ reading.old
  pub within : reading.hold.clock ≤ length f.history
  pub same : (place : ℕ) → reading.hold.clock ≤ place → place ≤ length f.history → (name : List ℕ) → range_of reading.call.view.layout f reading.call.node name ≡ true
      → number_at (after f.base f.history place) name ≡ number_at (map_now f) name
  pub order : order_in reading ≡ sorted_in reading

module _ (reading : Reading) (sound : IsReadingBut reading) (f : Facts) (named : HasNames (map_now f)) (knows : KnowsAll reading f) where
  abbrev slots : ℕ
  slots = reading.call.view.layout.slots

  abbrev s : Spot
  s = f.now reading.call.node

  abbrev range : List ℕ → Bool
  range = range_of reading.call.view.layout f reading.call.node

  abbrev low : List ℕ
  low = name_in reading.call

  abbrev order : List ℕ
  order = live_order (comes_before reading.entries) reading.bitmap slots

  abbrev own : ℕ → List ℕ × ℕ
  own = pair_at reading.entries reading.bitmap slots sound.many sound.call.view.layout.slots.1

  pairs_as : (xs : List ℕ) → map pair_of (map (entry reading) xs) ≡ map to_pair (map own xs)
  pairs_as [] = refl
  pairs_as (x ∷ xs) = ap (λ (ps : List Pair). pair_of (entry reading x) ∷ ps) (pairs_as xs)

  module _ (m : Map) (means : Means slots range s m) (names : (name : List ℕ) (value : ℕ) → range name ≡ true → number_at m name ≡ Some value → IsName name) where
    abbrev above : List ℕ × ℕ → Bool
    above e = not (is_below e.0 low)

    are : map own order ≡ where_key name_cmp range (entries m)
    are =
        names_are reading.entries reading.bitmap slots sound.many sound.call.view.layout.slots.1 s knows.knows.seen.0 (slots_say s reading.entries reading.bitmap slots knows.knows.seen.1) range m means knows.stays names

    is_packed : (slot : ℕ) → (slot < slots) × (bit_at reading.bitmap slot ≡ 1) → IsPacked (entry_name (entry reading slot))
    is_packed slot good =
        packed reading.entries reading.bitmap slots sound.many sound.call.view.layout.slots.1 s knows.knows.seen.0 (slots_say s reading.entries reading.bitmap slots knows.knows.seen.1) range m means knows.stays names slot good

    keeps_above : (slot : ℕ) → (slot < slots) × (bit_at reading.bitmap slot ≡ 1) → keeps reading slot ≡ above (own slot)
    keeps_above slot good =
        let is = is_packed slot good in
        let there = named-text (bytes_of (entry_name (entry reading slot))) is.named in
        let first : number_of (entry_name (entry reading slot)) ≡ key_of (bytes_of (entry_name (entry reading slot))) = ap number_of (sym is.whole) ∙ sym (key-number (bytes_of (entry_name (entry reading slot)))) in
        let second : number_of reading.call.name ≡ key_of low = ap number_of (sym sound.call.packed.whole) ∙ sym (key-number low) in
        ap not ((λ i. ltb (first i) (second i)) ∙ sym (key-order (bytes_of (entry_name (entry reading slot))) low there (named-text low sound.call.packed.named)))

    kept : (xs : List ℕ) → AllByRecursion (λ slot. (slot < slots) × (bit_at reading.bitmap slot ≡ 1)) xs → map own (filter (keeps reading) xs) ≡ filter above (map own xs)
    kept [] good = refl
    kept (x ∷ xs) good =
        let rest = kept xs good.1 in
        ap (λ b. map own (cond b (x ∷ filter (keeps reading) xs) (filter (keeps reading) xs))) (keeps_above x good.0)
        ∙ elim (above (own x)) as (λ b. map own (cond b (x ∷ filter (keeps reading) xs) (filter (keeps reading) xs)) ≡ cond b (own x ∷ filter above (map own xs)) (filter above (map own xs))) [
          | true ↦ ap (λ (es : List (List ℕ × ℕ)). own x ∷ es) rest
          | false ↦ rest
        ]

    -- as many names as live slots
    many : length order ≡ length (pairs_in m range)
    many = sym (length-map order own) ∙ ap length are ∙ sym (length-map (where_key name_cmp range (entries m)) to_pair)

    -- with this order
    abbrev words_with : List ℕ → PartWords
    words_with xs = record {
      node = reading.call.node;
      version = version_at reading.hold.locked reading.at;
      place = reading.hold.clock;
      old = reading.old;
      high = high_of reading.behind;
      len = (listing_in reading xs).len;
      entries = (listing_in reading xs).entries;
      compared = compared_by reading.way (length xs);
      hops = reading.call.hops;
    }

    sorted_or_not : (way : Way) → (compared_by way (length order) ≡ 0) ⊎ (compared_by way (length order) ≡ length (pairs_in m range))
    sorted_or_not (ways.Served words) = inl refl
    sorted_or_not (ways.Held words) = inr many
    sorted_or_not ways.Alone = inr many

    is_part_with : number_at m low ≡ reading.old → IsPartOf m range low reading.count (words_with order)
    is_part_with had =
        let few = live_order_few (comes_before reading.entries) reading.bitmap slots in
        let limit : slots ≤ 64 = sound.call.view.layout.slots.1 in
        let size : length no_listing.entries ≡ 64 = length-replicate 64 no_entry in
        let most = lists_few reading order no_listing in
        let all = all_good reading.entries reading.bitmap slots sound.many sound.call.view.layout.slots.1 in
        let count : reading.count - 0 ≡ reading.count = omega arith in
        let first = lists_first reading order no_listing (omega arith) ∙ ap (λ n. take n (map (entry reading) (filter (keeps reading) order))) count in
        record {
          few = omega arith;
          lists =
              ap (map pair_of) first
              ∙ sym (take-map pair_of reading.count (map (entry reading) (filter (keeps reading) order)))
              ∙ ap (take reading.count)
              (pairs_as (filter (keeps reading) order) ∙ ap (map to_pair) (kept order all ∙ ap (filter above) are ∙ filter-twice above (λ e. range e.0) (entries m)));
          named =
              subst (AllByRecursion (λ (e : List ℕ). AreNameWords (entry_name e))) (sym first)
              (all_first (λ e. AreNameWords (entry_name e)) reading.count (map (entry reading) (filter (keeps reading) order)) (all_kept reading (λ e. AreNameWords (entry_name e)) order
              (all_by (λ slot. (slot < slots) × (bit_at reading.bitmap slot ≡ 1)) (λ slot. AreNameWords (entry_name (entry reading slot))) (λ slot good. let is = is_packed slot good in (bytes_of (entry_name (entry reading slot)), is.named, is.whole)) order all)));
          had = sym had;
          compared = sorted_or_not reading.way;
        }

    pub is_part : number_at m low ≡ reading.old → IsPartOf m range low reading.count (part_words reading)
    unfolding sorted_slots
    is_part had = subst (λ (xs : List ℕ). IsPartOf m range low reading.count (words_with xs)) (sym knows.order) (is_part_with had)

  -- how many names it sorted
  compared_so : (way : Way) → HasCompared (way_reading reading.call reading.hold.locked way) (length (pairs_in (map_now f) range))
      (record (words_with (map_now f) knows.means (λ name value inside there. named name value there) order) { compared = compared_by way (length order) })
  compared_so (ways.Served words) = refl
  compared_so (ways.Held words) = many (map_now f) knows.means (λ name value inside there. named name value there)
  compared_so ways.Alone = many (map_now f) knows.means (λ name value inside there. named name value there)

  pub tells_part : TellsPart reading.call.view.layout f reading (part_words reading)
  unfolding sorted_slots
  tells_part =
      let same = (λ (name : List ℕ) (inside : range name ≡ true). knows.same reading.hold.clock (omega arith) knows.within name inside) in
      let past = after f.base f.history reading.hold.clock in
      let means_past : Means slots range s past = record { tidy = knows.means.tidy; agrees = λ name is_name inside. subst (Finds slots s name) (sym (same name inside)) (knows.means.agrees name is_name inside) } in
      let named_past = (λ (name : List ℕ) (value : ℕ) (inside : range name ≡ true) (there : number_at past name ≡ Some value). named name value (sym (same name inside) ∙ there)) in
      let few = live_order_few (comes_before reading.entries) reading.bitmap slots in
      let all = many past means_past named_past in
      record {
        now = is_part (map_now f) knows.means (λ name value inside there. named name value there) knows.old;
        then_was = is_part past means_past named_past (same low knows.inside ∙ knows.old);
        compared = subst (λ (xs : List ℕ). HasCompared (way_reading reading.call reading.hold.locked reading.way) (length (pairs_in (map_now f) range)) (words_with (map_now f) knows.means (λ name value inside there. named name value there) xs)) (sym knows.order) (compared_so reading.way);
        fit = omega (arith, few, all);
      }

-- only what it has read it tells
not_early : (answer : Once Placed) (words : PartWords) → early_of answer ≡ once.Done words → ⊥
not_early (once.Done placed) words is = cc
not_early (once.Spent clock) words is = cc
not_early (once.Worn node word) words is = cc
not_early (once.Again why) words is = cc

looked_on : (count : ℕ) (turn : Turn Lookup Looked) (words : PartWords) → part_looked count turn ≡ Done (once.Done words) → ⊥
looked_on count (Go next) words is = cc
looked_on count (Done (looked.Early answer)) words is = not_early answer words (cc)
looked_on count (Done (looked.Found found)) words is = cc

ordering_on : (call : Call) (seen : Sighting) (count : ℕ) (turn : Turn LoadPermutation (Option (List ℕ))) (words : PartWords) → ordering_turned call seen count turn ≡ Done (once.Done words) → ⊥
ordering_on call seen count (Go load) words is = cc
ordering_on call seen count (Done order) words is = cc

locking_on : (call : Call) (seen : Sighting) (count locked x : ℕ) (words : PartWords) → part_locked call seen count locked x ≡ Done (once.Done words) → ⊥
locking_on call seen count locked x words is = elim (x == seen.version) as (λ b. cond b (Go (part_held call seen count locked)) (Done (once.Again (again.Moved call.node seen.version x))) ≡ Done (once.Done words) → ⊥) [
  | true ↦ λ go. cc
  | false ↦ λ moved. cc
] is

-- the second load gives the version word that its walk saw
pub done_checked : (reading : Reading) (x : ℕ) (words : PartWords) → part_checked reading x ≡ once.Done words → (x ≡ reading.hold.locked) × (part_words reading ≡ words)
done_checked reading x words is =
    elim (x == reading.hold.locked) as (λ b. (x == reading.hold.locked) ≡ b → cond b (once.Done (part_words reading)) (once.Again (again.Moved reading.call.node reading.hold.locked x)) ≡ once.Done words
    → (x ≡ reading.hold.locked) × (part_words reading ≡ words)) [
      | true ↦ λ same done. (eqb-true x reading.hold.locked same, (cc))
      | false ↦ λ other done. absurd (cc)
    ] refl is

pub done_words : (reading : Reading) (x : ℕ) (words : PartWords) → reading_turned reading at.Check x ≡ Done (once.Done words) → (x ≡ reading.hold.locked) × (part_words reading ≡ words)
done_words reading x words is = done_checked reading x words (cc)

pub given_words : (reading : Reading) (x : ℕ) (words : PartWords) → reading_turned reading at.Unlock x ≡ Done (once.Done words) → part_words reading ≡ words
given_words reading x words is = cc

-- A part that ends has all live slots: without a lock it has loaded the version word again, with one it has given its
-- node back.
pub ends_reading : (p : Part) (x : ℕ) (words : PartWords) → part_turned p x ≡ Done (once.Done words) → (P : Part → Type 0)
    → ((reading : Reading) → reading_turned (record reading { at = at.Check }) at.Check x ≡ Done (once.Done words) → P (part.Reading (record reading { at = at.Check })))
    → ((reading : Reading) → reading_turned (record reading { at = at.Unlock }) at.Unlock x ≡ Done (once.Done words) → P (part.Reading (record reading { at = at.Unlock }))) → P p
ends_reading (part.Looking lookup count) x words is P checked given = absurd (looked_on count (lookup_turned lookup x) words is)
ends_reading (part.Ordering call seen count load) x words is P checked given = absurd (ordering_on call seen count (load_turned load x) words is)
ends_reading (part.Locking call seen count locked) x words is P checked given = absurd (locking_on call seen count locked x words is)
ends_reading (part.Dating call seen count way) x words is P checked given = absurd (cc)
ends_reading (part.Reading reading) x words is P checked given = go reading.at is
  where
    go : (k : ReadingAt) → reading_turned (record reading { at = k }) k x ≡ Done (once.Done words) → P (part.Reading (record reading { at = k }))
    go at.Clock done = absurd (cc)
    go at.Bitmap done = absurd (cc)
    go (at.Load slot word) done = absurd (cc)
    go (at.Store store) done = absurd (cc)
    go at.Check done = checked reading done
    go at.Unlock done = given reading done

-- What a part knows that ends, and where it has the order from. It reads the node's words as they are.
module _ (l : Layout) (g : ℕ) (f : Facts) (row : List ℕ) (caller index since : ℕ) (reading : Reading) (layout : reading.call.view.layout ≡ l) where
  -- without a lock
  pub free_knows : (x : ℕ) → IsReading (record reading { at = at.Check }) → Sure l g f caller index since (part_stage (part.Reading (record reading { at = at.Check })))
      → Relies l f row (Parting (part.Reading (record reading { at = at.Check }))) → f.version reading.call.node ≡ reading.hold.locked → KnowsAll (record reading { at = at.Check }) f
  free_knows x sound sure relies still = by reading.way refl sound.here.0
    where
      whole : Reading
      whole = record reading { at = at.Check }

      own : Layout
      own = reading.call.view.layout

      reads : SureReads l g f since reading.call.node reading.hold.locked (behind_sight reading.behind) (Some (reading_whole reading)) → order_in whole ≡ sorted_in whole → KnowsAll whole f
      reads knows order =
          let read = subst (λ k. IsRead k f since reading.call.node (reading_whole reading)) (sym layout) (knows.read still) in
          record { means = read.settled.means; stays = read.settled.stays; inside = read.inside; knows = read.knows; old = read.old; within = read.time.within; same = read.time.same; order = order }

      is_known : SureReads l g f since reading.call.node reading.hold.locked (behind_sight reading.behind) (Some (reading_whole reading))
          → Knows (name_in reading.call) (words_known ((bitmap_offset, reading.bitmap) ∷ slots_loaded reading.entries reading.bitmap reading.call.view.layout.slots)) (f.now reading.call.node)
      is_known knows = (knows.read still).knows

      by : (way : Way) → reading.way ≡ way → IsFreely reading.way → KnowsAll whole f
      by (ways.Held words) is free = absurd (subst IsFreely is free)
      by ways.Alone is free =
          reads (subst (λ (w : Way). Sure l g f caller index since (stage_by w reading.call.node reading.hold.locked (behind_sight reading.behind) (reading_whole reading))) is sure) (ap (order_by whole) is)
      by (ways.Served words) is free =
          let knows = subst (λ (w : Way). Sure l g f caller index since (stage_by w reading.call.node reading.hold.locked (behind_sight reading.behind) (reading_whole reading))) is sure in
          let serves = relies.permutation (record { node = reading.call.node; version = reading.hold.locked; seen = words_first words 8 }) (ap (way_reading reading.call reading.hold.locked) is) still in
          reads knows (served_order whole (but whole sound) words (f.now reading.call.node) (permutation_in l row reading.call.node) is (is_known knows) serves.tells
          (subst (λ (k : Layout). IsPermutationOf k.slots (permutation_in l row reading.call.node) (f.now reading.call.node)) (sym layout) serves.order))

  -- with the lock
  pub held_sure : IsReading (record reading { at = at.Unlock }) → Sure l g f caller index since (part_stage (part.Reading (record reading { at = at.Unlock })))
      → SureHolds l g f caller index since reading.call.node reading.hold.locked (reading_whole reading)
  held_sure sound sure = subst (λ (w : Way). Sure l g f caller index since (stage_by w reading.call.node reading.hold.locked (behind_sight reading.behind) (reading_whole reading))) sound.here.made sure

  pub held_knows : IsReading (record reading { at = at.Unlock }) → Sure l g f caller index since (part_stage (part.Reading (record reading { at = at.Unlock }))) → KnowsAll (record reading { at = at.Unlock }) f
  held_knows sound sure =
      let knows = subst (λ (k : Layout). SureHolds k g f caller index since reading.call.node reading.hold.locked (reading_whole reading)) (sym layout) (held_sure sound sure) in
      record {
        means = knows.means;
        stays = knows.stays;
        inside = knows.inside;
        knows = knows.knows;
        old = knows.old;
        within = knows.time.within;
        same = knows.time.same;
        order = held_order (record reading { at = at.Unlock }) sound.call.view.layout.slots.1 sound.here.made;
      }

-- what a reading tells is what its part does
is_told : (l : Layout) (f : Facts) (reading : Reading) (words : PartWords) → reading.call.view.layout ≡ l → TellsPart reading.call.view.layout f reading (part_words reading) → part_words reading ≡ words
    → IsPartTold l f (part.Reading reading) words
is_told l f reading words layout told done =
    let tells : TellsPart l f reading words = subst (λ (q : Layout × PartWords). TellsPart q.0 f reading q.1) (λ k. (layout k, done k)) told in
    record { now = tells.now; then_was = tells.then_was; compared = tells.compared; fit = tells.fit }

pub part_tells : PartTells
part_tells l g f row caller index since p x words sound named knows relies gives is =
    ends_reading p x words is (λ (q : Part). (part_call q).view.layout ≡ l → IsPart q → Sure l g f caller index since (part_stage q) → Relies l f row (Parting q) → IsToldVersion l f q x → IsPartTold l f q words)
    (λ reading done layout ok sure rely told.
    let whole = record reading { at = at.Check } in
    let checked = done_words whole x words done in
    let still : f.version reading.call.node ≡ reading.hold.locked = sym (told (ap (λ (k : Layout). Load (version_address k reading.call.node)) layout)) ∙ checked.0 in
    is_told l f whole words layout (tells_part whole (but whole ok) f named (free_knows l g f row caller index since reading layout x ok sure rely still)) checked.1)
    (λ reading done layout ok sure rely told.
    let whole = record reading { at = at.Unlock } in
    is_told l f whole words layout (tells_part whole (but whole ok) f named (held_knows l g f row caller index since reading layout ok sure)) (given_words whole x words done))
    sound.layout sound.here knows relies gives

pub parts_hear : PartsHear
parts_hear p x words is = ends_reading p x words is (λ (q : Part). IsHeard q x words)
    (λ reading done.
    let checked = done_words (record reading { at = at.Check }) x words done in
    subst (IsHeard (part.Reading (record reading { at = at.Check })) x) checked.1 (record { node = refl; hops = refl; gives = inl (refl, checked.0) }))
    (λ reading done.
    subst (IsHeard (part.Reading (record reading { at = at.Unlock })) x) (given_words (record reading { at = at.Unlock }) x words done) (record { node = refl; hops = refl; gives = inr refl }))
