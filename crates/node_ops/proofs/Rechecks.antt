-- What is known of a part, and what a recheck tells of it.
use Rattle.std.proofs.Common.{◌≡◌, ℕ, ◌+◌, ◌<◌, ◌≤◌, ◌==◌, Bool, true, false, not, cond, ◌&&◌, List, [], ◌++◌, append-nil, length, map, take, inl, inr, ◌⊎◌, refl, sym, subst, ap, ◌∙◌, arith}
use Rattle.std.specs.Prelude.{Some, slice_index, slice_set}
use Rattle.std.specs.FinMap.{entries}
use Rattle.std.specs.List.{filter}
use Rattle.std.proofs.lemmas.Bool.{eqb-true, eq-eqb}
use Rattle.std.proofs.lemmas.List.{length-append, length-map, take_all}
use Rattle.cat_key.specs.Names.{IsName}
use Rattle.cat_history.specs.Maps.{Map}
use Rattle.cat_history.specs.Scans.{is_below, range}
use Rattle.cat_history.specs.Writes.{after}
use Rattle.cat_history.specs.declared.op.Write.{Write}
use Rattle.cat_history.proofs.SameRanges.{same_pairs}
use Rattle.shapes.proofs.NameLists.{filter-short, filter-twice}
use Rattle.pm_words.specs.declared.again.Again.TheVariants as again
use mathlib.Core.Option.{some}
use lib.ListN.{get_elem?}
use Rattle.pm_words.specs.declared.action.Action.TheVariants.{Load}
use Rattle.pm_words.specs.declared.layout.Layout.{Layout}
use Rattle.pm_words.specs.Rows.{acted, got}
use Rattle.pm_words.specs.declared.machine.Turn.TheVariants.{Done}
use Rattle.data_node.specs.Bits.{live_count}
use Rattle.data_node.specs.Orders.{comes_before}
use Rattle.data_node.proofs.LiveCounts.{live_most}
use Rattle.permutation.proofs.Places.{length-first_slots}
use Rattle.call_stages.specs.declared.once.Once.TheVariants as once
use Rattle.call_stages.specs.Kinds.{clock_address, version_address, looks, reads_on, confirms}
use Rattle.call_stages.specs.AnySteps.{AnyStep, on_nodes}
use Rattle.call_stages.specs.Stages.{Stage, Idle, Reads, counted}
use Rattle.index_law.specs.Facts.{Facts, facts_of, range_of}
use Rattle.index_law.specs.Lawful.{HasNames, Lawful, Sure, SureHolds, SureReads}
use Rattle.index_law.specs.Standing.{IsUnchanged, StandsSince}
use Rattle.index_law.specs.Worlds.{Party, World, counted_write, facts, stepped, written}
use Rattle.index_law.proofs.Maps.{after-longer}
use Rattle.index_law.proofs.Rows.{facts-version, version_in-here, with_version}
use Rattle.index_law.proofs.Versions.{freed-free}
use Rattle.index_law.proofs.Standing.{standing_is_kept, reads_stand}
use Rattle.node_ops.specs.declared.part.Part.{Part}
use Rattle.node_ops.specs.declared.part.Part.TheVariants as part
use Rattle.node_ops.specs.declared.part.PartWords.{PartWords}
use Rattle.node_ops.specs.declared.part.Reading.{Reading}
use Rattle.node_ops.specs.declared.part.ReadingAt.TheVariants as at
use Rattle.node_ops.specs.declared.recheck.Recheck.TheVariants.{Dating, Checking}
use Rattle.node_ops.specs.Calls.{IsCall, name_in}
use Rattle.node_ops.specs.declared.running.Running.TheVariants.{Parting}
use Rattle.node_ops.specs.RunningSteps.{Sound}
use Rattle.node_ops.specs.CallStages.{behind_sight, part_stage, reading_whole, stage_by}
use Rattle.node_ops.specs.declared.part.Way.{Way}
use Rattle.node_ops.specs.declared.part.Way.TheVariants as ways
use Rattle.node_ops.specs.Parts.{EndsAt, HaveWords, IsPartOf, IsToldVersion, Relies, from_name, pairs_in}
use Rattle.node_ops.specs.PartSteps.{IsFreely, IsPart, compared_by, order_by, sorted_slots, part_asks, part_call, part_count, part_turned, part_words, reading_at_asks, reading_turned}
use Rattle.node_ops.specs.RecheckSteps.{rechecked}
use Rattle.node_ops.specs.Rechecks.{AsksForAll, KnownPart, IsKnown, PartsAreKnown, PartsAreFew, KnownIsKept, StatusesLeaveKnown}
use Rattle.node_ops.specs.Rechecks.{RecheckSure, RechecksAreTold, RechecksStaySure, RechecksOutlast, IsRechecked, RechecksTell, IsSameAt, SameTells}
use Rattle.node_ops.proofs.PartBounds.{parts_end, ends_are_ranges}
use Rattle.node_ops.proofs.PartOrder.{live_order_few}
use Rattle.node_ops.proofs.PartTelling.{done_words, ends_reading, given_words, part_tells, parts_hear}

own_call : (p : Part) → IsPart p → IsCall (part_call p)
own_call (part.Looking lookup count) is = is.0.call
own_call (part.Ordering call seen count load) is = is.there.sound
own_call (part.Locking call seen count locked) is = is.0.sound
own_call (part.Dating call seen count way) is = is.0.sound
own_call (part.Reading reading) is = is.call

pub known_is_kept : KnownIsKept
known_is_kept w i p a x t r k lawful there step told is = record {
  bounds = is.bounds;
  named = is.named;
  ends = is.ends;
  within = let within = is.within in let longer = length-append w.history (counted_write p) in omega arith;
  part = subst (λ (m : Map). IsPartOf m is.bounds k.low k.count k.words) (sym (after-longer w.base w.history (counted_write p) k.words.place is.within)) is.part;
  fit = subst (λ (m : Map). length (pairs_in m is.bounds) ≤ w.layout.slots) (sym (after-longer w.base w.history (counted_write p) k.words.place is.within)) is.fit;
  stands = standing_is_kept w i p a x t r is.bounds k.words.node k.words.version k.words.place lawful there step told is.stands;
}

-- it is told its node's version word where it loads that
told_version : (w : World) (p : Part) (x : ℕ) → Sound w.layout w.generation (Parting p) → x ≡ got w.layout w.words (part_asks p) → IsToldVersion w.layout (facts w) p x
told_version w p x sound told loads =
    told ∙ ap (got w.layout w.words) loads ∙ sym (version_in-here w.layout w.words (part_call p).node (subst (λ (k : Layout). (part_call p).node < k.nodes) sound.layout (own_call p sound.here).node))

-- What is said of a part's answer while its node's words are as they were.
record IsAnswered (w : World) (reading : Reading) (words : PartWords) : Type 0 where
  pub ends : EndsAt (range_of w.layout (facts w) words.node) (name_in reading.call) words.high
  pub told : IsPartOf (after w.base w.history words.place) (range_of w.layout (facts w) words.node) (name_in reading.call) reading.count words
  pub fit : length (pairs_in (after w.base w.history words.place) (range_of w.layout (facts w) words.node)) ≤ w.layout.slots

answered : (w : World) (i : ℕ) (party : Party) (reading : Reading) (x : ℕ) (words : PartWords) → Lawful w → HaveWords (facts w) → get_elem? w.parties i ≡ some party
    → party.stage ≡ part_stage (part.Reading reading) → Sound w.layout w.generation (Parting (part.Reading reading)) → x ≡ got w.layout w.words (part_asks (part.Reading reading))
    → Relies w.layout (facts w) w.words (Parting (part.Reading reading)) → part_turned (part.Reading reading) x ≡ Done (once.Done words) → IsAnswered w reading words
answered w i party reading x words lawful fits there stage sound told relies is =
    let p = part.Reading reading in
    let sure = subst (Sure w.layout w.generation (facts w) party.caller party.index party.since) stage (lawful.sure i party there) in
    let gives = told_version w p x sound told in
    let tells = part_tells w.layout w.generation (facts w) w.words party.caller party.index party.since p x words sound lawful.named sure relies gives is in
    record {
      ends = parts_end w.layout w.generation (facts w) w.words party.caller party.index party.since p x words sound lawful.list fits sure relies gives is;
      told = tells.then_was;
      fit = tells.fit;
    }

-- without a lock it is known at the second load, and then after that
free_known : (w : World) (i : ℕ) (party : Party) (reading : Reading) (x : ℕ) (words : PartWords) → Lawful w → get_elem? w.parties i ≡ some party
    → party.stage ≡ part_stage (part.Reading (record reading { at = at.Check })) → Sound w.layout w.generation (Parting (part.Reading (record reading { at = at.Check })))
    → x ≡ got w.layout w.words (part_asks (part.Reading (record reading { at = at.Check })))
    → reading_turned (record reading { at = at.Check }) at.Check x ≡ Done (once.Done words) → IsAnswered w reading words
    → IsKnown w.layout w.generation (facts (stepped w i party (part_asks (part.Reading (record reading { at = at.Check }))) Idle)) (record { low = name_in reading.call; count = reading.count; words = words })
free_known w i party reading x words lawful there stage sound told is so = by reading.way refl sound.here.here.0
  where
    whole : Reading
    whole = record reading { at = at.Check }

    k : KnownPart
    k = record { low = name_in reading.call; count = reading.count; words = words }

    done : (x ≡ reading.hold.locked) × (part_words whole ≡ words)
    done = done_words whole x words is

    still : (facts w).version reading.call.node ≡ reading.hold.locked
    still = sym (told_version w (part.Reading whole) x sound told (ap (λ (l : Layout). Load (version_address l reading.call.node)) sound.layout)) ∙ done.0

    reads : SureReads w.layout w.generation (facts w) party.since reading.call.node reading.hold.locked (behind_sight reading.behind) (Some (reading_whole reading)) → party.stage ≡ Reads reading.call.node reading.hold.locked (behind_sight reading.behind) (Some (reading_whole reading))
        → IsKnown w.layout w.generation (facts (stepped w i party (reading_at_asks reading.call reading.hold at.Check) Idle)) k
    reads sure at_stage =
        let stands : StandsSince w.layout w.generation (facts w) (range_of w.layout (facts w) words.node) words.node words.version words.place =
        subst (λ (q : PartWords). StandsSince w.layout w.generation (facts w) (range_of w.layout (facts w) q.node) q.node q.version q.place) done.1
        (reads_stand w.layout w.generation (facts w) 0 0 party.since reading.call.node reading.hold.locked reading.hold.clock (behind_sight reading.behind) (reading_whole reading) (range_of w.layout (facts w) reading.call.node) sure refl still (λ name inside. inside)) in
        let hears = parts_hear (part.Reading whole) x words is in
        let here : IsKnown w.layout w.generation (facts w) k = record {
          bounds = range_of w.layout (facts w) words.node;
          named = sound.here.call.packed.named;
          ends = so.ends;
          within = (stands.unchanged (ap (facts w).version hears.node ∙ still ∙ ap (λ (q : PartWords). q.version) done.1)).within;
          part = so.told;
          fit = so.fit;
          stands = stands;
        } in
        let step = subst (λ (q : Layout × (ℕ × Stage)). AnyStep q.0 q.1.0 q.1.1 (reading_at_asks reading.call reading.hold at.Check) x Idle (Some (once.Done (record { old = reading.old; place = reading.hold.clock; hops = reading.call.hops }))))
        (λ j. (sound.layout j, (sound.generation j, sym at_stage j)))
        (on_nodes (looks (reads_on (confirms {k = behind_sight reading.behind} {h = reading_whole reading} sound.here.call.node done.0 refl sound.here.reads refl refl)))) in
        known_is_kept w i party (reading_at_asks reading.call reading.hold at.Check) x Idle _ k lawful there step told here

    by : (way : Way) → reading.way ≡ way → IsFreely reading.way → IsKnown w.layout w.generation (facts (stepped w i party (reading_at_asks reading.call reading.hold at.Check) Idle)) k
    by (ways.Held made) way free = absurd (subst IsFreely way free)
    by ways.Alone way free =
        let at_stage = stage ∙ ap (λ (v : Way). stage_by v reading.call.node reading.hold.locked (behind_sight reading.behind) (reading_whole reading)) way in
        reads (subst (Sure w.layout w.generation (facts w) party.caller party.index party.since) at_stage (lawful.sure i party there)) at_stage
    by (ways.Served read) way free =
        let at_stage = stage ∙ ap (λ (v : Way). stage_by v reading.call.node reading.hold.locked (behind_sight reading.behind) (reading_whole reading)) way in
        reads (subst (Sure w.layout w.generation (facts w) party.caller party.index party.since) at_stage (lawful.sure i party there)) at_stage

-- with the lock it is known once the node is given back
held_known : (w : World) (i : ℕ) (party : Party) (reading : Reading) (x : ℕ) (words : PartWords) → Lawful w → get_elem? w.parties i ≡ some party
    → party.stage ≡ part_stage (part.Reading (record reading { at = at.Unlock })) → Sound w.layout w.generation (Parting (part.Reading (record reading { at = at.Unlock })))
    → reading_turned (record reading { at = at.Unlock }) at.Unlock x ≡ Done (once.Done words) → IsAnswered w reading words
    → IsKnown w.layout w.generation (facts (stepped w i party (part_asks (part.Reading (record reading { at = at.Unlock }))) Idle)) (record { low = name_in reading.call; count = reading.count; words = words })
held_known w i party reading x words lawful there stage sound is so =
    let whole = record reading { at = at.Unlock } in
    let l = w.layout in
    let f = facts w in
    let n = reading.call.node in
    let freed : ℕ = reading.hold.locked + 1 in
    let done = given_words whole x words is in
    let at_stage = stage ∙ ap (λ (v : Way). stage_by v reading.call.node reading.hold.locked (behind_sight reading.behind) (reading_whole reading)) sound.here.here.made in
    let knows : SureHolds l w.generation f party.caller party.index party.since n reading.hold.locked (reading_whole reading) = subst (Sure l w.generation f party.caller party.index party.since) at_stage (lawful.sure i party there) in
    let none : counted_write party ≡ [] = ap (written party.caller party.index) (ap counted at_stage) in
    let same_history : w.history ++ counted_write party ≡ w.history = ap (λ (more : List Write). w.history ++ more) none ∙ append-nil w.history in
    let asks : acted l w.words (reading_at_asks reading.call reading.hold at.Unlock) ≡ slice_set w.words (version_address l n) freed = ap (λ (k : Layout). slice_set w.words (version_address k n) freed) sound.layout in
    let after_it : facts (stepped w i party (reading_at_asks reading.call reading.hold at.Unlock) Idle) ≡ with_version f n freed =
    (λ j. facts_of l (asks j) w.base (same_history j)) ∙ facts-version l w.words w.base w.history n freed lawful.row.whole knows.here in
    let now : (with_version f n freed).version n ≡ freed = ap (λ (b : Bool). cond b freed (f.version n)) (eq-eqb n n refl) in
    let stands : StandsSince l w.generation (with_version f n freed) (range_of l f n) n freed reading.hold.clock = record {
      here = knows.here;
      free = freed-free reading.hold.locked w.generation knows.lock;
      seen = omega (arith, now);
      inside = λ same name inside. inside;
      unchanged = λ same. record {
        within = knows.time.within;
        same = λ place late soon name inside. knows.time.same place late soon name inside ∙ sym (knows.time.same reading.hold.clock (omega arith) knows.time.within name inside);
      };
    } in
    subst (λ (φ : Facts). IsKnown l w.generation φ (record { low = name_in reading.call; count = reading.count; words = words })) (sym after_it) (record {
      bounds = range_of l f words.node;
      named = sound.here.call.packed.named;
      ends = so.ends;
      within = subst (λ (q : PartWords). q.place ≤ length w.history) done knows.time.within;
      part = so.told;
      fit = so.fit;
      stands = subst (λ (q : PartWords). StandsSince l w.generation (with_version f n freed) (range_of l f q.node) q.node q.version q.place) done stands;
    })

pub parts_are_known : PartsAreKnown
parts_are_known w i party p x words lawful fits there stage sound told relies is =
    ends_reading p x words is (λ (q : Part). party.stage ≡ part_stage q → Sound w.layout w.generation (Parting q) → x ≡ got w.layout w.words (part_asks q) → Relies w.layout (facts w) w.words (Parting q)
    → IsKnown w.layout w.generation (facts (stepped w i party (part_asks q) Idle)) (record { low = name_in (part_call q); count = part_count q; words = words }))
    (λ reading done at_stage ok loads rely.
    let so = answered w i party (record reading { at = at.Check }) x words lawful fits there at_stage ok loads rely done in
    free_known w i party reading x words lawful there at_stage ok loads done (record { ends = so.ends; told = so.told; fit = so.fit }))
    (λ reading done at_stage ok loads rely.
    let so = answered w i party (record reading { at = at.Unlock }) x words lawful fits there at_stage ok loads rely done in
    held_known w i party reading x words lawful there at_stage ok done (record { ends = so.ends; told = so.told; fit = so.fit }))
    stage sound told relies

-- what it sorted
compared_few : (way : Way) (names slots : ℕ) → names ≤ slots → compared_by way names ≤ slots
compared_few (ways.Served words) names slots few = omega arith
compared_few (ways.Held words) names slots few = few
compared_few ways.Alone names slots few = few

order_few : (reading : Reading) (way : Way) → length (order_by reading way) ≤ reading.call.view.layout.slots
unfolding sorted_slots
order_few reading (ways.Served words) =
    let size = length-first_slots (slice_index words) (live_count reading.call.view.layout.slots reading.bitmap) in let most = live_most reading.call.view.layout.slots reading.bitmap in omega arith
order_few reading (ways.Held words) =
    let size = length-first_slots (slice_index words) (live_count reading.call.view.layout.slots reading.bitmap) in let most = live_most reading.call.view.layout.slots reading.bitmap in omega arith
order_few reading ways.Alone = live_order_few (comes_before reading.entries) reading.bitmap reading.call.view.layout.slots

few_by : (reading : Reading) (words : PartWords) → part_words reading ≡ words → words.compared ≤ reading.call.view.layout.slots
few_by reading words done = subst (λ (w : PartWords). w.compared ≤ reading.call.view.layout.slots) done (compared_few reading.way _ _ (order_few reading reading.way))

pub parts_are_few : PartsAreFew
parts_are_few l g p x words sound is =
    ends_reading p x words is (λ (q : Part). (part_call q).view.layout ≡ l → words.compared ≤ l.slots)
    (λ reading done layout.
    let whole = record reading { at = at.Check } in
    subst (λ (m : Layout). words.compared ≤ m.slots) layout (few_by whole words (done_words whole x words done).1))
    (λ reading done layout.
    let whole = record reading { at = at.Unlock } in
    subst (λ (m : Layout). words.compared ≤ m.slots) layout (few_by whole words (given_words whole x words done)))
    sound.layout

pub statuses_leave_known : StatusesLeaveKnown
statuses_leave_known l g f f' k same is = subst (λ (φ : Facts). IsKnown l g φ k) (sym same) (record {
  bounds = is.bounds;
  named = is.named;
  ends = is.ends;
  within = is.within;
  part = is.part;
  fit = is.fit;
  stands = record { here = is.stands.here; free = is.stands.free; seen = is.stands.seen; inside = is.stands.inside; unchanged = is.stands.unchanged };
})

pub rechecks_are_told : RechecksAreTold
rechecks_are_told w (Dating view node version) lawful is same = ap (λ (l : Layout). slice_index w.words (clock_address l)) same ∙ lawful.clock
rechecks_are_told w (Checking view node version clock) lawful is same =
    ap (λ (l : Layout). slice_index w.words (version_address l node)) same
    ∙ sym (version_in-here w.layout w.words node (subst (λ (l : Layout). node < l.nodes) same is.1))

pub rechecks_stay_sure : RechecksStaySure
rechecks_stay_sure since f (Dating view node version) next x sure told goes =
    let on : Checking view node version x ≡ next = cc in
    subst (RecheckSure since f.history) on (omega (arith, sure, told), omega (arith, told))
rechecks_stay_sure since f (Checking view node version clock) next x sure told goes = absurd (cc)

pub rechecks_outlast : RechecksOutlast
rechecks_outlast since history longer (Dating view node version) grows sure = omega (arith, grows, sure)
rechecks_outlast since history longer (Checking view node version clock) grows sure = let within = sure.1 in (sure.0, omega (arith, grows, within))

pub rechecks_tell : RechecksTell
rechecks_tell since f (Dating view node version) x answer sure told is = absurd (cc)
rechecks_tell since f (Checking view node version clock) x answer sure told is =
    let comes : rechecked node version clock x ≡ answer = cc in
    subst (IsRechecked since f (Checking view node version clock)) comes
    (elim (x == version) as (λ b. (x == version) ≡ b → IsRechecked since f (Checking view node version clock) (cond b (once.Done (record { place = clock })) (once.Again (again.Moved node version x)))) [
      | true ↦ λ same. (sym told ∙ eqb-true x version same, sure.0, sure.1)
      | false ↦ λ other. (refl, refl, told, λ e. let clash : false ≡ true = sym other ∙ eq-eqb x version e in cc)
    ] refl)

in_bounds : (a b : Bool) → (a && b) ≡ true → a ≡ true
in_bounds true b is = refl
in_bounds false b is = is

-- of a map's names in a range fewer are from this one on
shorter : (bounds : List ℕ → Bool) (low : List ℕ) (es : List (List ℕ × ℕ)) → length (filter (λ (e : List ℕ × ℕ). from_name bounds low e.0) es) ≤ length (filter (λ (e : List ℕ × ℕ). bounds e.0) es)
shorter bounds low es =
    subst (λ (xs : List (List ℕ × ℕ)). length xs ≤ length (filter (λ (e : List ℕ × ℕ). bounds e.0) es))
    (filter-twice (λ (e : List ℕ × ℕ). not (is_below e.0 low)) (λ (e : List ℕ × ℕ). bounds e.0) es)
    (filter-short (λ (e : List ℕ × ℕ). not (is_below e.0 low)) (filter (λ (e : List ℕ × ℕ). bounds e.0) es))

few_pairs : (m : Map) (bounds : List ℕ → Bool) (low : List ℕ) → length (pairs_in m (from_name bounds low)) ≤ length (pairs_in m bounds)
few_pairs m bounds low =
    let short = shorter bounds low (entries m) in
    let here : length (pairs_in m (from_name bounds low)) ≡ length (filter (λ (e : List ℕ × ℕ). from_name bounds low e.0) (entries m)) = length-map (filter (λ (e : List ℕ × ℕ). from_name bounds low e.0) (entries m)) (λ (e : List ℕ × ℕ). record { name = e.0; value = e.1 }) in
    let all : length (pairs_in m bounds) ≡ length (filter (λ (e : List ℕ × ℕ). bounds e.0) (entries m)) = length-map (filter (λ (e : List ℕ × ℕ). bounds e.0) (entries m)) (λ (e : List ℕ × ℕ). record { name = e.0; value = e.1 }) in
    omega (arith, short, here, all)

module _ (slots : ℕ) (base : Map) (history : List Write) (k : KnownPart) (bounds : List ℕ → Bool) (low_named : IsName k.low) (ends : EndsAt bounds k.low k.words.high)
    (told : IsPartOf (after base history k.words.place) bounds k.low k.count k.words) (fit : length (pairs_in (after base history k.words.place) bounds) ≤ slots) (still : IsUnchanged bounds base history k.words.place)
    (named : (place : ℕ) → HasNames (after base history place)) where
  -- the range of a scan at each place since is what the node's range had at the part's place
  range_at : (between : ℕ) → k.words.place ≤ between → between ≤ length history → range (after base history between) k.low k.words.high ≡ pairs_in (after base history k.words.place) (from_name bounds k.low)
  range_at between late within =
      sym (ends_are_ranges bounds k.low k.words.high (after base history between) low_named ends (named between))
      ∙ ap (map (λ (e : List ℕ × ℕ). record { name = e.0; value = e.1 }))
      (same_pairs (from_name bounds k.low) (after base history k.words.place) (after base history between)
      (λ name inside. still.same between late within name (in_bounds (bounds name) (not (is_below name k.low)) inside)))

  -- as many were asked for as its range had
  asked : AsksForAll slots k → length (pairs_in (after base history k.words.place) bounds) ≤ k.count
  asked (inl all) = omega (arith, all, fit)
  asked (inr any) = of told.compared
    where
      of : (k.words.compared ≡ 0) ⊎ (k.words.compared ≡ length (pairs_in (after base history k.words.place) bounds)) → length (pairs_in (after base history k.words.place) bounds) ≤ k.count
      of (inl zero_compared) = let first = any.0 in absurd (omega arith)
      of (inr each) = let most = any.1 in omega arith

  same_at : (place : ℕ) → place ≤ length history → IsSameAt slots base history k place
  same_at place within = record {
    lists = λ between late soon. told.lists ∙ ap (take k.count) (sym (range_at between late (omega (arith, soon, within))));
    whole = λ few between late soon.
        let fewer = few_pairs (after base history k.words.place) bounds k.low in
        let enough = asked few in
        let short : length (pairs_in (after base history k.words.place) (from_name bounds k.low)) ≤ k.count = omega (arith, enough, fewer) in
        told.lists ∙ take_all k.count (pairs_in (after base history k.words.place) (from_name bounds k.low)) short ∙ sym (range_at between late (omega (arith, soon, within)));
  }

pub same_tells : SameTells
same_tells l g f since r x same k sure told is known node version named =
    let answer : IsRechecked since f r (once.Done same) = rechecks_tell since f r x (once.Done same) sure told is in
    let still : f.version k.words.node ≡ k.words.version = ap f.version node ∙ answer.0 ∙ sym version in
    same_at l.slots f.base f.history k known.bounds known.named known.ends known.part known.fit (known.stands.unchanged still) named same.place answer.2
