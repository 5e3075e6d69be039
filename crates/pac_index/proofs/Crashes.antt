-- What a crash leaves of the table's last state.
use Rattle.std.proofs.Common.{suc, zero, ◌≡◌, ℕ, ◌+◌, ◌<◌, ◌≤◌, List, [], ◌∷◌, ◌++◌, map, length, refl, sym, ap}
use Rattle.std.proofs.Common.{◌∙◌, subst, arith}
use Rattle.std.specs.Prelude.{◌*◌, ◌/◌, true, Option, None, Some, slice_get}
use mathlib.Core.Option.{some, some-injective}
use lib.ListN.{get_elem?}
use Rattle.cat_history.specs.Maps.{map_of}
use Rattle.cat_history.specs.CrashEnds.{IsCrashEnd}
use Rattle.cat_history.specs.Writes.{after_all}
use Rattle.cat_history.specs.declared.op.Change.{Change}
use Rattle.cat_history.specs.declared.op.Write.{Write}
use Rattle.pm_words.specs.Images.{Row}
use Rattle.pm_words.specs.Locations.{image_words}
use Rattle.pm_words.specs.Rows.{durable_row}
use Rattle.index_law.specs.Weights.{weight_sum}
use Rattle.index_core.specs.declared.party.PartyState.{PartyState}
use Rattle.index_core.specs.CrashLaws.{chosen_index, evicted_by}
use Rattle.index_core.specs.Crashes.{cut_change, cut_changes, unplaced}
use Rattle.index_core.specs.Indexes.{Index, IsIndex, parties_of, world}
use Rattle.index_core.specs.CoreCalls.{op_of}
use Rattle.index_core.specs.MachineLaws.{put_shows, showing, shows}
use Rattle.index_core.proofs.CrashLaws.{chosen_keep, chosen_weighs, crash_leaves, crash_keeps_generation}
use Rattle.index_core.proofs.Lists.{map_there}
use Rattle.index_core.proofs.Shown.{shows_few}
use Rattle.atomic_table.specs.Table.{Final, Seen}
use Rattle.pac_index.specs.declared.rule.About.{About}
use Rattle.pac_index.specs.declared.caller.Caller.{Caller}
use Rattle.pac_index.specs.declared.shared.Shared.{Shared}
use Rattle.pac_index.specs.Kept.{index_of, placed_by, Begins, Fits, added_in, added_in_all, opening_weight, Kept}
use Rattle.cat_history.specs.Records.{change_of}
use Rattle.cat_history.specs.declared.op.NameOp.{NameOp}
use Rattle.cat_history.specs.declared.op.NameOp.TheVariants as op
use Rattle.node_ops.specs.Asked.{op_in}
use Rattle.node_ops.specs.CallStages.{stage_of}
use Rattle.image_rules.specs.Rules.{header_generation}
use Rattle.image_rules.specs.Sound.{IsMapOf}
use Rattle.image_rules.specs.Weights.{image_weight}
use Rattle.index_core.specs.image_layer_rules.specs.Sound.{IsSoundByAll}
use Rattle.pac_index.specs.declared.caller.CutCall.{CutCall}
use Rattle.pac_index.specs.declared.crashing.Crashed.{Crashed}
use Rattle.pac_index.specs.Callers.{HasCallers, TellsCut, added_by_all, seen_by}
use Rattle.pac_index.specs.CrashMeetings.{CrashMeeting, IsCrashOf, change_in_flight, changes_in_flight, cut_of}
use Rattle.pac_index.specs.CrashMeetings.{one_put, put_in_flight, puts_in_flight, state_of}
use Rattle.pac_index.proofs.Closing.{others_empty}
use Rattle.pac_index.proofs.Lists.{added_only}

-- the changes in flight are those that the callers tell
change_is : (o : Option CutCall) (state : PartyState) → TellsCut o state → cut_change state.machine ≡ change_in_flight o
change_is None state is = ap cut_change is
change_is (Some cut) state is = ap cut_change is.flies ∙ (λ k. unplaced (sym is.place k) (change_of (is.op k)))

changes_are : (callers : List Caller) → ((i : ℕ) (c : Caller) → get_elem? callers i ≡ some c → TellsCut c.cut (seen_by c).state) → cut_changes (map state_of callers) ≡ changes_in_flight (map cut_of callers)
changes_are [] tells = refl
changes_are (c ∷ cs) tells =
    (λ k. change_is c.cut (seen_by c).state (tells 0 c refl) k ++ changes_are cs (λ i d at. tells (suc i) d at) k)

-- and so are the puts
put_one : (o : NameOp) (n : ℕ) → n ≤ 1 → put_shows o n ≤ one_put o
put_one (op.Put name value) n less = less
put_one (op.Get name) n less = omega arith
put_one (op.Del name) n less = omega arith

put_is : (o : Option CutCall) (state : PartyState) → TellsCut o state → showing state.machine ≤ put_in_flight o
put_is None state is = let none = ap showing is in omega arith
put_is (Some cut) state is =
    let here = ap showing is.flies in
    let one : put_shows (op_in is.machine) (shows (stage_of is.machine)) ≤ one_put (op_of cut.call) =
    subst (λ (o : NameOp). put_shows (op_in is.machine) (shows (stage_of is.machine)) ≤ one_put o) is.op (put_one (op_in is.machine) (shows (stage_of is.machine)) (shows_few (stage_of is.machine))) in
    omega arith

puts_are : (callers : List Caller) → ((i : ℕ) (c : Caller) → get_elem? callers i ≡ some c → TellsCut c.cut (seen_by c).state) → added_in (map seen_by callers) ≤ added_by_all callers + puts_in_flight (map cut_of callers)
puts_are [] tells = omega arith
puts_are (c ∷ cs) tells =
    let here = put_is c.cut (seen_by c).state (tells 0 c refl) in
    let rest = puts_are cs (λ i d at. tells (suc i) d at) in
    omega arith

-- two lists of parties alike at each place
alike : (xs ys : List PartyState) → length xs ≡ length ys → ((i : ℕ) (y : PartyState) → get_elem? ys i ≡ some y → get_elem? xs i ≡ some y) → xs ≡ ys
alike [] [] long each = refl
alike [] (y ∷ ys) long each = absurd (omega arith)
alike (x ∷ xs) [] long each = absurd (omega arith)
alike (x ∷ xs) (y ∷ ys) long each =
    let head : x ≡ y = some-injective _ _ (each 0 y refl) in
    let rest = alike xs ys (omega arith) (λ i z at. each (suc i) z at) in
    λ k. head k ∷ rest k

map_at : (callers : List Caller) (i : ℕ) (e : PartyState) → get_elem? (map state_of callers) i ≡ some e → (c : Caller) × (get_elem? callers i ≡ some c) × (state_of c ≡ e)
map_at [] i e at = absurd (cc)
map_at (c ∷ cs) zero e at = (c, refl, some-injective _ _ at)
map_at (c ∷ cs) (suc i) e at = map_at cs i e at

long_map : (callers : List Caller) → length (map state_of callers) ≡ length callers
long_map [] = refl
long_map (c ∷ cs) = ap suc (long_map cs)

-- The table's last state, as an index with whatever is in flight.
pub record IsHeld (s : Shared) (callers : List Caller) (words : List ℕ) : Type 0 where
  pub history : List Write
  pub index : IsIndex (index_of s.about words (map state_of callers) history)
  pub seen : (i : ℕ) (c : Caller) → get_elem? callers i ≡ some c → Begins (seen_by c).seen history
  pub own : (i : ℕ) (c : Caller) → get_elem? callers i ≡ some c → placed_by i history ≡ placed_by i (seen_by c).seen
  pub writers : (place : ℕ) (w : Write) → slice_get history place ≡ Some w → w.caller < length callers
  pub weight : weight_sum (world (index_of s.about words (map state_of callers) history)) ≤ opening_weight s.about + added_by_all callers + puts_in_flight (map cut_of callers)
  pub full : (i : ℕ) (c : Caller) → get_elem? callers i ≡ some c → (seen_by c).none_free ≡ true → s.about.layout.nodes * (s.about.layout.slots / 2) ≤ opening_weight s.about + added_by_all callers + puts_in_flight (map cut_of callers)

pub holds : (s : Shared) (callers : List Caller) (id : ℕ) (words : List ℕ) (slots : List (Unit {0})) → HasCallers s (parties_of s.about.layout) callers → Final (Seen (Kept s.table.shared.key) id (map seen_by callers)) words slots → IsHeld s callers words
holds s callers id words slots has final =
    let key = s.table.shared.key in
    let st = final.0 in
    let kept = final.1.0 in
    let h = kept.history in
    let same : key ≡ s.about = s.key in
    let fit : (i : ℕ) (c : Caller) → get_elem? callers i ≡ some c → Fits key kept.states h (seen_by c) = λ i c at. kept.fits id (map seen_by callers) final.1.1 i (seen_by c) (map_there seen_by callers i c at) in
    let number : (i : ℕ) (c : Caller) → get_elem? callers i ≡ some c → (seen_by c).state.caller ≡ i = λ i c at. (has.each i c at).number ∙ has.numbers i c at in
    let count : parties_of key.layout ≡ length callers = ap (λ (b : About). parties_of b.layout) same ∙ sym has.count in
    let states : kept.states ≡ map state_of callers =
    alike kept.states (map state_of callers) (kept.index.parties ∙ count ∙ sym (long_map callers)) (λ i e at.
    let from = map_at callers i e at in
    ap (get_elem? kept.states) (sym (number i from.0 from.1)) ∙ (fit i from.0 from.1).there ∙ ap some from.2) in
    let others = others_empty key callers id st kept final.1.1 number count in
    let puts : ℕ = puts_in_flight (map cut_of callers) in
    let added : added_in_all st.views ≤ added_by_all callers + puts =
    subst (λ (n : ℕ). n ≤ added_by_all callers + puts) (sym (added_only st.views id (map seen_by callers) final.1.1 others)) (puts_are callers (λ i c at. (has.each i c at).tells)) in
    record {
      history = h;
      index = subst IsIndex (λ k. index_of (same k) (final.2 k) (states k) h) kept.index;
      seen = λ i c at. (fit i c at).seen;
      own = λ i c at. subst (λ (n : ℕ). placed_by n h ≡ placed_by n (seen_by c).seen) (number i c at) (fit i c at).own;
      writers = λ place w at. let less = kept.index.bounded.writers place w at in omega arith;
      weight =
          let sum = kept.weight in
          let weighs : weight_sum (world (index_of key st.words kept.states h)) ≤ opening_weight key + added_by_all callers + puts = omega arith in
          subst (λ (q : About × List ℕ × List PartyState). weight_sum (world (index_of q.0 q.1 q.2 h)) ≤ opening_weight q.0 + added_by_all callers + puts) (λ k. (same k, final.2 k, states k)) weighs;
      full = λ i c at noted.
          let half = kept.full id (map seen_by callers) final.1.1 i (seen_by c) (map_there seen_by callers i c at) noted in
          let enough : key.layout.nodes * (key.layout.slots / 2) ≤ opening_weight key + added_by_all callers + puts = omega (arith, half, added) in
          subst (λ (q : About). q.layout.nodes * (q.layout.slots / 2) ≤ opening_weight q + added_by_all callers + puts) same enough;
    }

-- the image of the words once those that the seed chooses are durable
pub meets_so : (s : Shared) (callers : List Caller) (words : List ℕ) (seed : ℕ) (crashed : Crashed) → ((i : ℕ) (c : Caller) → get_elem? callers i ≡ some c → TellsCut c.cut (seen_by c).state) → IsHeld s callers words → crashed.cuts.items ≡ map cut_of callers
    → crashed.image ≡ record { layout = s.about.layout; words = durable_row s.about.layout (evicted_by s.about.layout seed (image_words s.about.layout) words) } → CrashMeeting s callers crashed
meets_so s callers words seed crashed tells z cuts is =
    let s0 : Index = index_of s.about words (map state_of callers) z.history in
    let chosen = chosen_index s0 seed in
    let index = chosen_keep s0 seed z.index in
    let crash = crash_leaves chosen index in
    let weighs = crash.weighs in
    let same = chosen_weighs s0 seed in
    let bound = z.weight in
    let row : Row = record { layout = s.about.layout; words = durable_row s.about.layout (evicted_by s.about.layout seed (image_words s.about.layout) words) } in
    let light : image_weight row.layout row.words ≤ opening_weight s.about + added_by_all callers + puts_in_flight (map cut_of callers) = omega (arith, weighs, same, bound) in
    record {
      cuts = cuts;
      history = z.history;
      seen = z.seen;
      own = z.own;
      writers = z.writers;
      layout = ap (λ (r : Row). r.layout) is;
      generation = subst (λ (r : Row). header_generation r.layout r.words ≡ s.about.generation) (sym is) (crash_keeps_generation chosen index);
      sound = subst (λ (r : Row). IsSoundByAll r.layout r.words) (sym is) crash.sound;
      end = crash.end;
      keeps = subst (λ (r : Row). IsMapOf r.layout r.words crash.end) (sym is) crash.keeps;
      ends = subst (λ (l : List Change). IsCrashEnd (after_all (map_of s.about.base) z.history) l crash.end) (changes_are callers tells ∙ ap changes_in_flight (sym cuts)) crash.ends;
      weighs = subst (λ (q : Row × List (Option CutCall)). image_weight q.0.layout q.0.words ≤ opening_weight s.about + added_by_all callers + puts_in_flight q.1) (λ k. (sym is k, sym cuts k)) light;
      full = λ i c at noted. subst (λ (l : List (Option CutCall)). s.about.layout.nodes * (s.about.layout.slots / 2) ≤ opening_weight s.about + added_by_all callers + puts_in_flight l) (sym cuts) (z.full i c at noted);
    }

pub crash_of : (s : Shared) (callers : List Caller) (words : List ℕ) (seed : ℕ) (image : Row) → IsHeld s callers words
    → image ≡ record { layout = s.about.layout; words = durable_row s.about.layout (evicted_by s.about.layout seed (image_words s.about.layout) words) } → IsCrashOf s callers seed image
crash_of s callers words seed image z is = record { words = words; history = z.history; index = z.index; leaves = is }
