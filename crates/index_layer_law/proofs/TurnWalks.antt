-- What the walk of a turn relies on: each of its loads keeps that, and what it found is its key's target.
use Rattle.std.proofs.Common.{◌≡◌, ℕ, ◌+◌, ◌≤◌, true, false, List, sym, ◌∙◌, subst, arith}
use Rattle.pm_words.specs.declared.layout.Layout.{Layout}
use Rattle.pm_words.specs.declared.action.Action.{Action}
use Rattle.pm_words.specs.Rows.{got}
use Rattle.pm_words.specs.Codes.{live_status}
use Rattle.pm_words.specs.Offsets.{version_offset, next_offset}
use Rattle.version_lock.specs.Versions.{generation_of, IsFree}
use Rattle.cat_history.specs.Maps.{Map}
use Rattle.cat_history.specs.declared.op.Write.{Write}
use Rattle.data_node.specs.Lists.{anchor_in}
use Rattle.call_stages.specs.Watches.{Watching, Nothing, Watches, Watch, begins, finds_live, watches, watches_next, lets_go}
use Rattle.layer_map.specs.Keys.{key_number}
use Rattle.updater_law.specs.Covered.{IsTarget}
use Rattle.updater_law.specs.Facts.{IsListed}
use Rattle.updater_row_law.specs.Columns.{RowTerms, Ghosts, node_field, facts_in}
use Rattle.updater_row_law.specs.RowStages.{RowTarget}
use Rattle.updater_row_law.specs.RowLaw.{IsTargetFor}
use Rattle.index_law.specs.Facts.{Facts, facts_of}
use Rattle.index_law.specs.Lawful.{IsList, AreLive, AreKnown, Stands}
use Rattle.index_law.proofs.Reading.{stands_none, stands_live, stands_word, stands_next}
use Rattle.index_law.proofs.Rows.{version_in-here, status_in-here, spot_in-here}
use Rattle.index_law.specs.Worlds.{World, facts}
use Rattle.index_layer_law.specs.Turnings.{is_listed, SureWatches, SureWatch, IsShown}
use Rattle.index_layer_law.specs.Laws.{TargetsStand}
use Rattle.index_layer_law.proofs.FactTies.{version_tie, word_tie, anchor_tie, listed_told, listed_tells}
use Rattle.index_layer_law.proofs.Targets.{between_is_target}

module _ (l : Layout) (g : ℕ) (words : List ℕ) (base : Map) (history : List Write) where
  abbrev f : Facts
  f = facts_of l words base history

  -- each load of a walk keeps what it relies on
  pub watch_keeps : (before after : Watching) (a : Action) (x : ℕ) → AreKnown l g f → AreLive l g f → Watch l g before a x after → x ≡ got l words a
      → SureWatch l g f before → SureWatch l g f after
  watch_keeps before after a x known live (begins {n = n} here free) told knows =
      let is : x ≡ f.version n = told ∙ sym (version_in-here l words n here) in
      record {
        here = here;
        known = subst (λ v. generation_of v ≤ g) (sym is) (known n here);
        free = free;
        seen = omega (arith, is);
        leads = λ no. absurd (let none : false ≡ true = no in cc);
        stands = λ same. stands_none f n;
      }
  watch_keeps before after a x known live (finds_live {n = n} {k = k} here is) told knows =
      let lit : f.status n ≡ live_status = status_in-here l words n here ∙ sym told ∙ is in
      record {
        here = knows.here;
        known = knows.known;
        free = knows.free;
        seen = knows.seen;
        leads = λ _. live.leads n here lit;
        stands = λ same. stands_live f n k (live.listed n here lit (subst (λ v. IsFree v g) (sym same) knows.free)) (knows.stands same);
      }
  watch_keeps before after a x known live (watches {n = n} {offset = offset} {k = k} {k' = k'} has positive stays next learnt) told knows =
      let is : x ≡ f.now n offset = told ∙ sym (spot_in-here l words n offset has positive) in
      record {
        here = knows.here;
        known = knows.known;
        free = knows.free;
        seen = knows.seen;
        leads = λ lit. knows.leads (sym stays ∙ lit);
        stands = λ same. stands_word f n offset x k k' stays next learnt is (knows.stands same);
      }
  watch_keeps before after a x known live (watches_next {n = n} {m = m} {offset = offset} {k = k} {k' = k'} has low high ne lit lit' next leads learnt) told knows =
      let is : x ≡ f.now m offset = told ∙ sym (spot_in-here l words m offset has (omega arith)) in
      record {
        here = knows.here;
        known = knows.known;
        free = knows.free;
        seen = knows.seen;
        leads = λ _. knows.leads lit;
        stands = λ same. stands_next f n m offset x k k' lit leads learnt is (knows.stands same);
      }
  watch_keeps before after a x known live lets_go told knows = tt

-- it reads version words, the words of nodes, and the list
pub watch_same : (l : Layout) (g : ℕ) (before after : Facts) (watch : Watching) → after.version ≡ before.version → after.now ≡ before.now → after.list ≡ before.list
    → SureWatch l g before watch → SureWatch l g after watch
watch_same l g before after Nothing version now list knows = tt
watch_same l g before after (Watches n v k) version now list knows =
    let moved : SureWatches l g (record { version = after.version; status = before.status; now = after.now; list = after.list; base = before.base; history = before.history }) n v k =
    subst (λ φ. SureWatches l g φ n v k)
    (λ i. record { version = sym version i; status = before.status; now = sym now i; list = sym list i; base = before.base; history = before.history }) knows in
    let stands : after.version n ≡ v → Stands after n k = λ same. assumption (moved.stands same) in
    assumption (moved, stands)

-- so does what a target was seen to be
pub shown_same : (l : Layout) (g : ℕ) (before after : Facts) (key : List ℕ) (target : RowTarget) → after.version ≡ before.version → after.now ≡ before.now → after.list ≡ before.list
    → IsShown l g before key target → IsShown l g after key target
shown_same l g before after key target version now list shown = record {
  sight = shown.sight;
  sure = watch_same l g before after (Watches target.node target.version shown.sight) version now list shown.sure;
  seen = shown.seen;
}

-- as long as its version word stands, what the walk found is its key's target
module _ (r : RowTerms) (words : List ℕ) (base : Map) (history : List Write) (holder : ℕ → ℕ) (list : IsList r.layout (facts_of r.layout words base history)) where
  abbrev φ : Facts
  φ = facts_of r.layout words base history

  abbrev ghosts : Ghosts
  ghosts = record { listed = is_listed φ; holder = holder }

  pub found_target : (key : List ℕ) (target : RowTarget) → IsShown r.layout r.generation φ key target → IsTargetFor r ghosts words key target
  found_target key target shown =
      let n : ℕ = target.node in
      let stood : node_field r.layout words version_offset n ≡ target.version → Stands φ n shown.sight = (λ same. shown.sure.stands (sym (version_tie r.layout words n) ∙ same)) in
      let anchors : (facts_in r ghosts words).anchor ≡ (λ m. anchor_in (φ.now m)) = λ k m. anchor_tie r.layout words m k in
      record {
        stands = λ same.
            let stands = stood same in
            subst (λ anchor. IsTarget (IsListed (facts_in r ghosts words)) anchor (key_number key) n) (sym anchors)
            (between_is_target r.layout φ list n (key_number key) (stands.listed shown.seen.live) (shown.seen.between (φ.now n) (φ.now (φ.now n next_offset)) stands.sees));
        low = λ same k small. word_tie r.layout words (3 + k) n (omega arith) (omega arith) ∙ shown.seen.low (φ.now n) (φ.now (φ.now n next_offset)) (stood same).sees k small;
      }

-- so it is of each turn of an index
pub targets_stand : TargetsStand
targets_stand z i t e target is there stage same =
    let w : World = z.whole.world in
    let shown = is.shown i t e target there stage in
    let stands = shown.sure.stands same in
    let found = between_is_target w.layout (facts w) is.whole.joint.lawful.list target.node (key_number e.anchor) (stands.listed shown.seen.live)
    (shown.seen.between ((facts w).now target.node) ((facts w).now ((facts w).now target.node next_offset)) stands.sees) in
    record { here = listed_told (facts w) target.node found.here; low = found.low; greatest = λ n listed low. found.greatest n (listed_tells (facts w) n listed) low }
