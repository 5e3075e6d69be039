-- Where the range of a part ends: at the anchor of the next node, which its walk saw.
use Rattle.std.proofs.Common.{◌≡◌, ◌≢◌, ℕ, ◌<◌, ◌≤◌, ◌^◌, ◌==◌, ltb, Bool, true, false, cond, not, ◌&&◌, Option, Some, None, IfSome, List, [], ◌∷◌, ◌++◌, map, inl, inr, refl, sym, subst, ap, ◌∙◌, slice_index, arith}
use Rattle.std.specs.Prelude.{nat_lt, if◌then◌else◌}
use Rattle.std.specs.FinMap.{entries}
use Rattle.std.specs.List.{AllByRecursion}
use Rattle.std.proofs.lemmas.Bool.{eqb-true, eq-eqb, lt-ltb, ltb-true, ltb-false}
use Rattle.std.proofs.lemmas.List.{set-get_or}
use mathlib.Core.Option.{some}
use lib.ListN.{get_elem?}
use Rattle.pm_words.specs.declared.action.Action.{Action}
use Rattle.pm_words.specs.declared.action.Action.TheVariants.{Exchange, Load}
use Rattle.pm_words.specs.declared.layout.Layout.{Layout}
use Rattle.pm_words.specs.declared.machine.Turn.{Turn}
use Rattle.pm_words.specs.declared.machine.Turn.TheVariants.{Go, Done}
use Rattle.pm_words.specs.declared.again.Again.TheVariants as again
use Rattle.pm_words.specs.Locations.{node_words}
use Rattle.pm_words.specs.Rows.{got}
use Rattle.pm_words.specs.Offsets.{version_offset, next_offset}
use Rattle.cat_key.specs.Names.{IsName, AreNameWords}
use Rattle.cat_history.specs.Scans.{is_below, is_under, is_between}
use Rattle.data_node.specs.Spots.{Spot}
use Rattle.data_node.specs.Lists.{ListNode, IsMember, IsChain, IsBetween, key_of, number_of, anchor_in, anchor_words}
use Rattle.data_node.specs.Lists.{range_in, target_from}
use Rattle.data_node.proofs.KeyLemmas.{key-number, anchor-number, named_anchor}
use Rattle.data_node.proofs.ListLemmas.{between_target, target_between, chain_closed}
use Rattle.data_list.specs.declared.target.Next.{Next}
use Rattle.data_list.specs.declared.target.Sighting.{Sighting}
use Rattle.data_list.specs.Keys.{IsNameOf, key_words, name_kept}
use Rattle.data_list.specs.Walks.{high_of}
use Rattle.data_list.proofs.KeyLemmas.{name_kept_so}
use Rattle.shapes.proofs.NameLists.{all_by, filter-alike}
use Rattle.call_stages.specs.declared.once.Once.{Once}
use Rattle.call_stages.specs.declared.once.Once.TheVariants as once
use Rattle.call_stages.specs.declared.once.Placed.{Placed}
use Rattle.call_stages.specs.AnySteps.{IsBeside, on_permutation}
use Rattle.call_stages.specs.Kinds.{version_address, word_address}
use Rattle.call_stages.specs.Stages.{Held, Holds, Stage, counted}
use Rattle.permutation.specs.declared.load.LoadPermutation.{LoadPermutation}
use Rattle.permutation.specs.declared.store.StorePermutation.{StorePermutation}
use Rattle.permutation.specs.Loads.{load_turned}
use Rattle.permutation.specs.Stores.{store_asks, store_turned}
use Rattle.index_law.specs.Facts.{Facts, list_in, range_of, spot_in, IsListed}
use Rattle.index_law.specs.Lawful.{IsList, Lawful, Stands, Sure, SureReads}
use Rattle.index_law.specs.Worlds.{Party, World, counted_write, facts, stepped}
use Rattle.index_law.proofs.AnchorTexts.{key-order, named-text}
use Rattle.index_law.proofs.AnySteps.{beside_keeps}
use Rattle.index_law.proofs.Cutting.{all-named}
use Rattle.index_law.proofs.Rows.{facts-version, version_in-here}
use Rattle.index_law.proofs.Switch.{between_inside, rise_from}
use Rattle.node_ops.specs.declared.call.Call.{Call}
use Rattle.node_ops.specs.declared.lookup.Looked.{Looked}
use Rattle.node_ops.specs.declared.lookup.Lookup.{Lookup}
use Rattle.node_ops.specs.declared.part.PartWords.{PartWords}
use Rattle.node_ops.specs.declared.part.Reading.{Reading}
use Rattle.node_ops.specs.declared.part.ReadingAt.{ReadingAt}
use Rattle.node_ops.specs.declared.part.ReadingAt.TheVariants as at
use Rattle.node_ops.specs.declared.part.Way.{Way}
use Rattle.node_ops.specs.declared.part.Way.TheVariants as ways
use Rattle.node_ops.specs.declared.part.Part.{Part}
use Rattle.node_ops.specs.declared.part.Part.TheVariants as part
use Rattle.node_ops.specs.declared.running.Running.{Running}
use Rattle.node_ops.specs.declared.running.Running.TheVariants.{Getting, Putting, Deleting, Parting}
use Rattle.node_ops.specs.Calls.{call_address, name_in}
use Rattle.node_ops.specs.CallStages.{behind_sight, part_stage, reading_at_held, reading_whole, stage_after, stage_by}
use Rattle.node_ops.specs.LookupSteps.{lookup_turned}
use Rattle.node_ops.specs.GetSteps.{get_turned}
use Rattle.node_ops.specs.PutSteps.{put_turned}
use Rattle.node_ops.specs.DelSteps.{del_turned}
use Rattle.node_ops.specs.PartSteps.{goes_on, low_value, sorted_by, part_call, part_dated, part_held, part_locked, part_looked, part_ordered, ordering_turned, store_on, with_word, reading_at_asks, reading_turned, IsFreely, IsPart, IsReading, IsThere}
use Rattle.node_ops.specs.RunningSteps.{running_asks, running_turned, wrapped, wrapped_part}
use Rattle.node_ops.specs.Parts.{from_name, IsBehind, HaveWords, HeldEnd, HasEnd, IsToldVersion, PartsEnd, EndsAt, EndsAreHeld, EndsStay, PartsEndThere, EndsAreRanges, Relies, end_after, end_of, part_end, way_end}
use Rattle.node_ops.proofs.LookupLaw.{key_is}
use Rattle.node_ops.proofs.PartLaw.{keeps_behind, sorting_leads, sorts_on}
use Rattle.node_ops.proofs.PartStages.{reading_counts}
use Rattle.node_ops.proofs.PartTelling.{done_words, ends_reading, given_words}
use Rattle.node_ops.proofs.PartTurns.{looked_is, ordered_is, goes_is}

-- the words of nodes have 64 bits
pub have_words : (w : World) → Lawful w → HaveWords (facts w)
unfolding spot_in
have_words w lawful n offset =
    elim (nat_lt n w.layout.nodes && (nat_lt 0 offset && nat_lt offset (node_words w.layout))) as (λ b. (if b then slice_index w.words (word_address w.layout n offset) else 0) < 2 ^ 64) [
      | true ↦ lawful.row.fits (word_address w.layout n offset)
      | false ↦ omega arith
    ]

-- the anchor of a node behind is that of a name
named_member : (now : ℕ → Spot) (here : ℕ) (list : List ListNode) → IsChain now here list → AllByRecursion (λ (m : ListNode). (name : List ℕ) × IsName name × (m.anchor ≡ key_of name)) list
    → (n : ℕ) → IsMember list n → (name : List ℕ) × IsName name × (anchor_in (now n) ≡ key_of name)
named_member now here [] chain named n among = absurd among
named_member now here (m ∷ behind) chain named n (inl e) = (named.0.0, named.0.1, ap (λ k. anchor_in (now k)) e ∙ chain.2 ∙ named.0.2)
named_member now here (m ∷ behind) chain named n (inr among) = named_member now m.node behind chain.3 named.1 n among

module _ (l : Layout) (f : Facts) (list : IsList l f) (n : ℕ) where
  -- the names of a listed node's range are those between its anchor and the next one
  between_of : (name : List ℕ) → range_of l f n name ≡ true → IsBetween (f.now n) (f.now (f.now n next_offset)) (key_of name)
  between_of name inside =
      target_between f.now 0 f.list list.chain (key_of name) n (let lowest = list.lowest in omega arith) (eqb-true (target_from 0 f.list (key_of name)) n inside)

  of_between : IsListed f n → (name : List ℕ) → IsBetween (f.now n) (f.now (f.now n next_offset)) (key_of name) → range_of l f n name ≡ true
  of_between listed name between = eq-eqb (target_from 0 f.list (key_of name)) n (between_target f.now 0 f.list list.chain (rise_from l f list) n (key_of name) listed between)

  -- the range ends at this name, which is the anchor of the next node, or nowhere
  abbrev IsEnd : Option (List ℕ) → Type 0
  IsEnd None = f.now n next_offset ≡ 0
  IsEnd (Some high) = IsName high × (f.now n next_offset ≢ 0) × (key_of high ≡ anchor_in (f.now (f.now n next_offset)))

  end_is : HaveWords f → IsListed f n → (behind : Option Next) → IsBehind f n behind → IsEnd (high_of behind)
  end_is fits listed None none = none
  end_is fits listed (Some next) leads =
      let some : f.now n next_offset ≢ 0 = λ none. leads.1 (sym leads.0 ∙ none) in
      let member : IsMember f.list next.node = subst (IsMember f.list) leads.0 (chain_closed f.now 0 f.list list.chain n listed some) in
      let anchor = named_member f.now 0 f.list list.chain list.named next.node member in
      let are : AreNameWords (key_words next.anchor) = subst AreNameWords leads.2 (named_anchor (f.now next.node) anchor.0 (fits next.node) anchor.1 anchor.2) in
      elim (name_kept next.anchor) as (λ o. IsNameOf (key_words next.anchor) o → IsEnd o) [
        | None ↦ λ is. absurd (let clash : false ≡ true = is.some.1 are in cc)
        | Some high ↦ λ is. (
          is.named,
          some,
          key-number high ∙ ap number_of (is.whole ∙ sym leads.2) ∙ sym (anchor-number (f.now next.node)) ∙ ap (λ k. anchor_in (f.now k)) (sym leads.0),
        )
      ] (name_kept_so next.anchor)

  module _ (listed : IsListed f n) (low : List ℕ) (named_low : IsName low) (inside : range_of l f n low ≡ true) where
    -- it lies above
    end_above : (high : Option (List ℕ)) → IsEnd high → IfSome high (λ h. IsName h × (is_below low h ≡ true))
    end_above None none = tt
    end_above (Some high) is = (
      is.0,
      key-order low high (named-text low named_low) (named-text high is.0)
          ∙ lt-ltb (key_of low) (key_of high) (let short = (between_of low inside).high is.1 in let same = is.2 in omega arith),
    )

    -- of the names from the low one on those below it are the range's
    ends_there : (high : Option (List ℕ)) → IsEnd high → (name : List ℕ) → IsName name → is_below name low ≡ false → range_of l f n name ≡ is_under high name
    ends_there high is name named from =
        let least = (between_of low inside).low in
        let above : key_of low ≤ key_of name = ltb-false (key_of name) (key_of low) (sym (key-order name low (named-text name named) (named-text low named_low)) ∙ from) in
        under high is (omega arith)
      where
        under : (high : Option (List ℕ)) → IsEnd high → anchor_in (f.now n) ≤ key_of name → range_of l f n name ≡ is_under high name
        under None none least = of_between listed name (record { low = least; high = λ some. absurd (some none) })
        under (Some high) is least =
            let same = is.2 in
            elim (ltb (key_of name) (key_of high)) as (λ b. ltb (key_of name) (key_of high) ≡ b → range_of l f n name ≡ b) [
              | true ↦ λ less. let short = ltb-true (key_of name) (key_of high) less in of_between listed name (record { low = least; high = λ _. omega arith })
              | false ↦ λ more. elim (range_of l f n name) as (λ b. range_of l f n name ≡ b → b ≡ false) [
                | true ↦ λ in_range. let long = ltb-false (key_of name) (key_of high) more in let short = (between_of name in_range).high is.1 in absurd (omega arith)
                | false ↦ λ _. refl
              ] refl
            ] refl ∙ sym (key-order name high (named-text name named) (named-text high is.0))

pub parts_end_there : PartsEndThere
parts_end_there l f n behind low list fits listed leads named_low inside =
    let is = end_is l f list n fits listed behind leads in
    record { above = end_above l f list n listed low named_low inside (high_of behind) is; ends = ends_there l f list n listed low named_low inside (high_of behind) is }

-- what holds of the keys holds of the entries by their keys
all_keys : (P : List ℕ → Type 0) (es : List (List ℕ × ℕ)) → AllByRecursion P (map (λ (e : List ℕ × ℕ). e.0) es) → AllByRecursion (λ (e : List ℕ × ℕ). P e.0) es
all_keys P [] all = tt
all_keys P (e ∷ es) all = (all.0, all_keys P es all.1)

-- of the names of such a range those from the low one on are those between it and the end
from_between : (in_range : List ℕ → Bool) (low : List ℕ) (high : Option (List ℕ)) → EndsAt in_range low high → (name : List ℕ) → IsName name → from_name in_range low name ≡ is_between low high name
from_between in_range low high ends name named =
    elim (is_below name low) as (λ b. is_below name low ≡ b → (in_range name && not b) ≡ (not b && is_under high name)) [
      | true ↦ λ _. elim (in_range name) as (λ b. (b && false) ≡ false) [ true ↦ refl | false ↦ refl ]
      | false ↦ λ from. elim (in_range name) as (λ b. b ≡ is_under high name → (b && true) ≡ is_under high name) [ true ↦ λ is. is | false ↦ λ is. is ] (ends.ends name named from)
    ] refl

pub ends_are_ranges : EndsAreRanges
ends_are_ranges in_range low high m named_low ends named =
    ap (map (λ (e : List ℕ × ℕ). record { name = e.0; value = e.1 }))
    (filter-alike (λ (e : List ℕ × ℕ). from_name in_range low e.0) (λ (e : List ℕ × ℕ). is_between low high e.0) (entries m)
    (all_by (λ (e : List ℕ × ℕ). IsName e.0) (λ (e : List ℕ × ℕ). from_name in_range low e.0 ≡ is_between low high e.0)
    (λ e is_name. from_between in_range low high ends e.0 is_name) (entries m) (all_keys IsName (entries m) (all-named m named))))

-- what it saw stands at the second load
sees_behind : (f : Facts) (n : ℕ) (behind : Option Next) → Stands f n (behind_sight behind) → IfSome behind (λ next. next.node ≢ 0) → IsBehind f n behind
sees_behind f n None is nonzero = is.sees.seen.0
sees_behind f n (Some next) is nonzero =
    let to : f.now n next_offset ≡ next.node = is.sees.seen.0 in
    let beyond = is.sees.beyond nonzero in
    let a = beyond.0.2 in
    let b = beyond.1.0.2 in
    let c = beyond.1.1.0.2 in
    (to, nonzero, subst (λ k. anchor_words (f.now k) ≡ key_words next.anchor) to (λ i. a i ∷ b i ∷ c i ∷ []))

-- where it took no lock, that is where its walk saw the next node
free_ends : (l : Layout) (g : ℕ) (f : Facts) (caller index since : ℕ) (reading : Reading) (x : ℕ) → IsList l f → HaveWords f → IsReading (record reading { at = at.Check })
    → Sure l g f caller index since (part_stage (part.Reading (record reading { at = at.Check }))) → f.version reading.call.node ≡ reading.hold.locked
    → EndsAt (range_of l f reading.call.node) (name_in reading.call) (high_of reading.behind)
free_ends l g f caller index since reading x list fits sound sure still = by reading.way refl sound.here.0
  where
    reads : SureReads l g f since reading.call.node reading.hold.locked (behind_sight reading.behind) (Some (reading_whole reading)) → EndsAt (range_of l f reading.call.node) (name_in reading.call) (high_of reading.behind)
    reads knows =
        let read = knows.read still in
        parts_end_there l f reading.call.node reading.behind (name_in reading.call) list fits read.listed (sees_behind f reading.call.node reading.behind (knows.stands still) sound.behind) read.named read.inside

    by : (way : Way) → reading.way ≡ way → IsFreely reading.way → EndsAt (range_of l f reading.call.node) (name_in reading.call) (high_of reading.behind)
    by (ways.Held words) is free = absurd (subst IsFreely is free)
    by ways.Alone is free = reads (subst (λ (w : Way). Sure l g f caller index since (stage_by w reading.call.node reading.hold.locked (behind_sight reading.behind) (reading_whole reading))) is sure)
    by (ways.Served words) is free = reads (subst (λ (w : Way). Sure l g f caller index since (stage_by w reading.call.node reading.hold.locked (behind_sight reading.behind) (reading_whole reading))) is sure)

pub parts_end : PartsEnd
parts_end l g f row caller index since p x words sound list fits sure relies gives is =
    ends_reading p x words is (λ (q : Part). (part_call q).view.layout ≡ l → IsPart q → Sure l g f caller index since (part_stage q) → Relies l f row (Parting q) → IsToldVersion l f q x
    → EndsAt (range_of l f words.node) (name_in (part_call q)) words.high)
    (λ reading done layout ok knows rely told.
    let checked = done_words (record reading { at = at.Check }) x words done in
    let still : f.version reading.call.node ≡ reading.hold.locked = sym (told (ap (λ (k : Layout). Load (version_address k reading.call.node)) layout)) ∙ checked.0 in
    subst (λ (w : PartWords). EndsAt (range_of l f w.node) (name_in reading.call) w.high) checked.1 (free_ends l g f caller index since reading x list fits ok knows still))
    (λ reading done layout ok knows rely told.
    let has = subst (λ (w : Way). HasEnd l f (way_end w reading.call reading.behind)) ok.here.made rely.end in
    subst (λ (w : PartWords). EndsAt (range_of l f w.node) (name_in reading.call) w.high) (given_words (record reading { at = at.Unlock }) x words done) has)
    sound.layout sound.here sure relies gives

way_held : (way : Way) (reading : Reading) → IfSome (way_end way reading.call reading.behind) (λ e. (lock : ℕ) × (h : Held) × (stage_by way reading.call.node reading.hold.locked (behind_sight reading.behind) (reading_at_held reading reading.at) ≡ Holds e.node lock h))
way_held (ways.Served words) reading = tt
way_held (ways.Held words) reading = (reading.hold.locked, reading_at_held reading reading.at, refl)
way_held ways.Alone reading = tt

pub ends_are_held : EndsAreHeld
ends_are_held (Getting get) = tt
ends_are_held (Putting put) = tt
ends_are_held (Deleting del) = tt
ends_are_held (Parting (part.Looking lookup count)) = tt
ends_are_held (Parting (part.Ordering call seen count load)) = tt
ends_are_held (Parting (part.Locking call seen count locked)) = tt
ends_are_held (Parting (part.Dating call seen count way)) = tt
ends_are_held (Parting (part.Reading reading)) = way_held reading.way reading

loaded_end : (reading : Reading) (way : Way) → reading.way ≡ way
    → way_end (sorted_by (record reading { old = low_value reading reading.call.view.layout.slots }) way).way (sorted_by (record reading { old = low_value reading reading.call.view.layout.slots }) way).call (sorted_by (record reading { old = low_value reading reading.call.view.layout.slots }) way).behind
    ≡ way_end way reading.call reading.behind
loaded_end reading (ways.Served words) is = ap (λ (w : Way). way_end w reading.call reading.behind) is
loaded_end reading (ways.Held words) is = refl
loaded_end reading ways.Alone is = ap (λ (w : Way). way_end w reading.call reading.behind) is

-- it knows as much of that after a turn
way_same : (reading : Reading) (at : ReadingAt) → way_end (goes_on reading at).way (goes_on reading at).call (goes_on reading at).behind ≡ way_end reading.way reading.call reading.behind
way_same reading at =
    goes_is (λ (r : Reading). way_end r.way r.call r.behind ≡ way_end reading.way reading.call reading.behind) reading at (λ slot word. refl)
    (loaded_end reading reading.way refl)

-- the list and its ranges, after an action that changes no node's words
module _ (w : World) (i : ℕ) (p : Party) (lawful : Lawful w) (there : get_elem? w.parties i ≡ some p) (none : counted p.stage ≡ None) where
  load_leaves : (place : ℕ) (next : Stage) (n : ℕ) → range_of w.layout (facts (stepped w i p (Load place) next)) n ≡ range_of w.layout (facts w) n
  load_leaves place next n = ap (λ (ws : List ℕ). range_in (list_in w.layout ws) n) (set-get_or w.words place 0)

  store_leaves : (action : Action) (next : Stage) (n : ℕ) → IsBeside w.layout action → range_of w.layout (facts (stepped w i p action next)) n ≡ range_of w.layout (facts w) n
  store_leaves action next n is = ap (λ (f : Facts). range_in f.list n) (beside_keeps w i p action lawful there none is).facts

  exchange_leaves : (n v locked : ℕ) (next : Stage) (m : ℕ) → n < w.layout.nodes → range_of w.layout (facts (stepped w i p (Exchange (version_address w.layout n) v locked) next)) m ≡ range_of w.layout (facts w) m
  exchange_leaves n v locked next m here = ap (λ (f : Facts). range_in f.list m) (facts-version w.layout w.words w.base (w.history ++ counted_write p) n _ lawful.row.whole here)

-- as it takes the lock it knows where the node's range ends
locking_ends : (w : World) (i : ℕ) (p : Party) (call : Call) (seen : Sighting) (count locked x : ℕ) → Lawful w → get_elem? w.parties i ≡ some p → p.stage ≡ part_stage (part.Locking call seen count locked)
    → call.view.layout ≡ w.layout → IsThere call seen → x ≡ got w.layout w.words (Exchange (call_address call version_offset) seen.version locked)
    → HasEnd w.layout (facts (stepped w i p (Exchange (call_address call version_offset) seen.version locked) (stage_after (wrapped_part (part_locked call seen count locked x))))) (end_after (wrapped_part (part_locked call seen count locked x)))
locking_ends w i p call seen count locked x lawful there stage layout is told =
    let l = w.layout in
    let f = facts w in
    let n = call.node in
    let here : n < l.nodes = subst (λ (k : Layout). n < k.nodes) layout is.sound.node in
    let sure = subst (Sure l w.generation f p.caller p.index p.since) stage (lawful.sure i p there) in
    elim (x == seen.version) as (λ b. (x == seen.version) ≡ b →
    HasEnd l (facts (stepped w i p (Exchange (call_address call version_offset) seen.version locked) (stage_after (wrapped_part (cond b (Go (part_held call seen count locked)) (Done (once.Again (again.Moved n seen.version x))))))))
    (end_after (wrapped_part (cond b (Go (part_held call seen count locked)) (Done (once.Again (again.Moved n seen.version x))))))) [
      | false ↦ λ other. tt
      | true ↦ λ same.
          let still : f.version n ≡ seen.version = version_in-here l w.words n here ∙ ap (λ (k : Layout). slice_index w.words (version_address k n)) (sym layout) ∙ sym told ∙ eqb-true x seen.version same in
          let stands = sure.stands still in
          let listed : IsListed f n = stands.listed is.is.is.live in
          let behind : Stands f n (behind_sight seen.next) = record { listed = λ live. listed; sees = keeps_behind seen _ _ stands.sees; leads = λ some. listed } in
          let inside : range_of l f n (name_in call) ≡ true = between_inside l f lawful.list n (name_in call) listed (subst (IsBetween (f.now n) (f.now (f.now n next_offset))) (key_is call is.sound) (is.is.is.between (f.now n) (f.now (f.now n next_offset)) stands.sees)) in
          let ends = parts_end_there l f n seen.next (name_in call) lawful.list (have_words w lawful) listed (sees_behind f n seen.next behind is.is.leads) is.sound.packed.named inside in
          let leaves : range_of l (facts (stepped w i p (Exchange (call_address call version_offset) seen.version locked) (part_stage (part_held call seen count locked)))) n ≡ range_of l f n =
          ap (λ (k : Layout). range_of l (facts (stepped w i p (Exchange (version_address k n) seen.version locked) (part_stage (part_held call seen count locked)))) n) layout
          ∙ exchange_leaves w i p lawful there (ap counted stage) n seen.version locked (part_stage (part_held call seen count locked)) n here in
          subst (λ (r : List ℕ → Bool). EndsAt r (name_in call) (high_of seen.next)) (sym leaves) ends
    ] refl

-- it has it still where the ranges stay
keeps_end : (l : Layout) (f f' : Facts) (before after : Option HeldEnd) → after ≡ before → ((n : ℕ) → range_of l f' n ≡ range_of l f n) → HasEnd l f before → HasEnd l f' after
keeps_end l f f' None after is same has = subst (HasEnd l f') (sym is) tt
keeps_end l f f' (Some e) after is same has = subst (HasEnd l f') (sym is) (subst (λ (r : List ℕ → Bool). EndsAt r e.low e.high) (sym (same e.node)) has)

stored_end : (reading : Reading) (turn : Turn StorePermutation (Unit {0})) → way_end (store_on reading turn).way (store_on reading turn).call (store_on reading turn).behind ≡ way_end reading.way reading.call reading.behind
stored_end reading (Go store) = refl
stored_end reading (Done nothing) = refl

module _ (w : World) (i : ℕ) (p : Party) (lawful : Lawful w) (there : get_elem? w.parties i ≡ some p) where
  reading_stay : (reading : Reading) (at : ReadingAt) (x : ℕ) → p.stage ≡ part_stage (part.Reading (record reading { at = at })) → reading.call.view.layout ≡ w.layout → IsReading (record reading { at = at })
      → HasEnd w.layout (facts w) (way_end reading.way reading.call reading.behind)
      → HasEnd w.layout (facts (stepped w i p (reading_at_asks reading.call reading.hold at) (stage_after (wrapped_part (reading_turned (record reading { at = at }) at x))))) (end_after (wrapped_part (reading_turned (record reading { at = at }) at x)))
  reading_stay reading at.Clock x stage layout sound has = keeps_end w.layout (facts w) (facts (stepped w i p (reading_at_asks reading.call reading.hold at.Clock) (stage_after (wrapped_part (reading_turned (record reading { at = at.Clock }) at.Clock x))))) (way_end reading.way reading.call reading.behind) _ refl (load_leaves w i p lawful there (ap counted stage ∙ reading_counts (record reading { at = at.Clock })) _ (stage_after (wrapped_part (reading_turned (record reading { at = at.Clock }) at.Clock x)))) has
  reading_stay reading at.Bitmap x stage layout sound has = keeps_end w.layout (facts w) (facts (stepped w i p (reading_at_asks reading.call reading.hold at.Bitmap) (stage_after (wrapped_part (reading_turned (record reading { at = at.Bitmap }) at.Bitmap x))))) (way_end reading.way reading.call reading.behind) _ (way_same (record reading { at = at.Bitmap; bitmap = x }) _) (load_leaves w i p lawful there (ap counted stage ∙ reading_counts (record reading { at = at.Bitmap })) _ (stage_after (wrapped_part (reading_turned (record reading { at = at.Bitmap }) at.Bitmap x)))) has
  reading_stay reading (at.Load slot word) x stage layout sound has =
      keeps_end w.layout (facts w) (facts (stepped w i p (reading_at_asks reading.call reading.hold (at.Load slot word)) (stage_after (wrapped_part (reading_turned (record reading { at = at.Load slot word }) (at.Load slot word) x))))) (way_end reading.way reading.call reading.behind) _ (way_same (record reading { at = at.Load slot word; entries = with_word reading.entries slot word x }) _) (load_leaves w i p lawful there (ap counted stage ∙ reading_counts (record reading { at = at.Load slot word })) _ (stage_after (wrapped_part (reading_turned (record reading { at = at.Load slot word }) (at.Load slot word) x)))) has
  reading_stay reading at.Check x stage layout sound has = tt
  reading_stay reading (at.Store store) x stage layout sound has =
      keeps_end w.layout (facts w) (facts (stepped w i p (reading_at_asks reading.call reading.hold (at.Store store)) (stage_after (wrapped_part (reading_turned (record reading { at = at.Store store }) (at.Store store) x))))) (way_end reading.way reading.call reading.behind) _ (stored_end (record reading { at = at.Store store }) (store_turned store x))
      (λ n. store_leaves w i p lawful there (ap counted stage ∙ reading_counts (record reading { at = at.Store store })) (store_asks store) (stage_after (wrapped_part (reading_turned (record reading { at = at.Store store }) (at.Store store) x))) n
      (subst (λ (k : Layout). IsBeside k (store_asks store)) layout (on_permutation (sorts_on _ _ _ _ _ (sorting_leads reading store x sound).sorts)))) has
  reading_stay reading at.Unlock x stage layout sound has = tt

  looked_endless : (f : Facts) (count : ℕ) (turn : Turn Lookup Looked) → HasEnd w.layout f (end_after (wrapped_part (part_looked count turn)))
  looked_endless f count turn = looked_is (λ (t : Turn Running (Once Placed)). HasEnd w.layout f (end_after t)) count turn (λ next. tt) (λ call seen. tt) (λ answer. tt)

  ordered_endless : (f : Facts) (call : Call) (seen : Sighting) (count : ℕ) (order : Option (List ℕ)) → HasEnd w.layout f (part_end (part_ordered call seen count order))
  ordered_endless f call seen count (Some words) = tt
  ordered_endless f call seen count None = ordered_is (λ (p : Part). HasEnd w.layout f (part_end p)) call seen count tt (λ locked. tt)

  ordering_endless : (f : Facts) (call : Call) (seen : Sighting) (count : ℕ) (turn : Turn LoadPermutation (Option (List ℕ))) → HasEnd w.layout f (end_after (wrapped_part (ordering_turned call seen count turn)))
  ordering_endless f call seen count (Go load) = tt
  ordering_endless f call seen count (Done order) = ordered_endless f call seen count order

  dated_endless : (f : Facts) (call : Call) (seen : Sighting) (count : ℕ) (way : Way) (x : ℕ) → IsFreely way → HasEnd w.layout f (part_end (part_dated call seen count way x))
  dated_endless f call seen count (ways.Served words) x free = tt
  dated_endless f call seen count (ways.Held words) x free = absurd free
  dated_endless f call seen count ways.Alone x free = tt

  alone_endless : {M : Type 0} (f : Facts) (wrap : M → Running) → ((m : M) → end_of (wrap m) ≡ None) → (turn : Turn M (Once Placed)) → HasEnd w.layout f (end_after (wrapped wrap turn))
  alone_endless f wrap none (Go m) = subst (HasEnd w.layout f) (sym (none m)) tt
  alone_endless f wrap none (Done answer) = tt

abbrev facts_then : World → ℕ → Party → Running → ℕ → Facts
facts_then w i p m x = facts (stepped w i p (running_asks m) (stage_after (running_turned m x)))

pub ends_stay : EndsStay
ends_stay w i p (Getting get) x lawful there stage sound told has = alone_endless w i p lawful there (facts_then w i p (Getting get) x) Getting (λ m. refl) (get_turned get x)
ends_stay w i p (Putting put) x lawful there stage sound told has = alone_endless w i p lawful there (facts_then w i p (Putting put) x) Putting (λ m. refl) (put_turned put x)
ends_stay w i p (Deleting del) x lawful there stage sound told has = alone_endless w i p lawful there (facts_then w i p (Deleting del) x) Deleting (λ m. refl) (del_turned del x)
ends_stay w i p (Parting (part.Looking lookup count)) x lawful there stage sound told has = looked_endless w i p lawful there (facts_then w i p (Parting (part.Looking lookup count)) x) count (lookup_turned lookup x)
ends_stay w i p (Parting (part.Ordering call seen count load)) x lawful there stage sound told has = ordering_endless w i p lawful there (facts_then w i p (Parting (part.Ordering call seen count load)) x) call seen count (load_turned load x)
ends_stay w i p (Parting (part.Locking call seen count locked)) x lawful there stage sound told has = locking_ends w i p call seen count locked x lawful there stage sound.layout sound.here.0 told
ends_stay w i p (Parting (part.Dating call seen count way)) x lawful there stage sound told has = dated_endless w i p lawful there (facts_then w i p (Parting (part.Dating call seen count way)) x) call seen count way x sound.here.1
ends_stay w i p (Parting (part.Reading reading)) x lawful there stage sound told has = reading_stay w i p lawful there reading reading.at x stage sound.layout sound.here has
