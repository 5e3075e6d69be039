-- What a party knows after a step of its split.
use Rattle.std.proofs.Common.{◌≡◌, ◌≢◌, ℕ, ◌<◌, Bool, true, false, cond, List, refl, sym, ap, ◌∙◌, subst, arith}
use Rattle.std.specs.Prelude.{◌==◌, ◌||◌, ◌&&◌, nat_le, nat_lt, if◌then◌else◌, Option, None, Some, IfSome}
use Rattle.std.proofs.lemmas.Bool.{eq-eqb, leb-true, lt-ltb, le-ltb, leb-false}
use Rattle.pm_words.specs.Codes.{live_status}
use Rattle.pm_words.specs.declared.layout.Layout.{Layout}
use Rattle.pm_words.specs.declared.action.Action.{Action}
use Rattle.pm_words.specs.Offsets.{bitmap_offset, next_offset}
use Rattle.data_node.specs.Spots.{Spot, Means, updated}
use Rattle.data_node.specs.Lists.{key_of, anchor_in, StaysIn}
use Rattle.data_node.proofs.SpotLemmas.{updated-same}
use Rattle.call_stages.specs.Stages.{Grip, Tells, Phase, Filling, Linked, Parted, Stage}
use Rattle.call_stages.specs.Kinds.{from_key, below_key, Split, fills, lights, switches, glances_left, glances_fresh, drains_left, drains_fresh, trims}
use Rattle.index_law.specs.Facts.{Facts, map_now, range_of, cached_word}
use Rattle.index_law.specs.Lawful.{IsList, IsLinked, IsAtPhase, Sure}
use Rattle.index_law.proofs.Moves.{split_after, SplitGave}
use Rattle.index_law.proofs.Rows.{with_word, with_status, with_next, set_here, set_else}
use Rattle.index_law.proofs.Switch.{inside_between, range_left, range_fresh, listed_still, listed_fresh}
use Rattle.index_law.proofs.Bystanders.{regrasp, told_word, settled_kept, asked_kept, grip_kept, later-word, later-status, steady-word, steady-status}
use Rattle.index_law.proofs.Locks.{cut_now}
use Rattle.index_law.proofs.Stays.{stays_stored}

-- those below a key and those from it on are all
parts_are : (range : List ℕ → Bool) (key : ℕ) → (λ (name : List ℕ). below_key range key name || from_key range key name) ≡ range
parts_are range key = λ i name. by name i where
  by : (name : List ℕ) → (below_key range key name || from_key range key name) ≡ range name
  by name = elim (range name) as (λ b. ((b && nat_lt (key_of name) key) || (b && nat_le key (key_of name))) ≡ b) [
    | true ↦ elim (nat_le key (key_of name)) as (λ c. nat_le key (key_of name) ≡ c → (nat_lt (key_of name) key || c) ≡ true) [
      | true ↦ λ up. ap (λ b. b || true) (le-ltb (key_of name) key (leb-true key (key_of name) up))
      | false ↦ λ low. ap (λ b. b || false) (lt-ltb (key_of name) key (below low))
    ] refl
    | false ↦ refl
  ]
    where
      below : nat_le key (key_of name) ≡ false → key_of name < key
      below low = leb-false key (key_of name) low

module _ (l : Layout) (g : ℕ) (f : Facts) (caller index since : ℕ) (list : IsList l f) where
  -- the same phase, where the grips know other words
  regrip : (left fresh : Grip) (seen dirty seen' dirty' : List (ℕ × ℕ)) (hand hand' : Option (ℕ × ℕ)) (phase : Phase) → IsAtPhase l f left fresh phase
      → IsAtPhase l f (record left { seen = seen; dirty = dirty; hand = hand }) (record fresh { seen = seen'; dirty = dirty'; hand = hand' }) phase
  regrip left fresh seen dirty seen' dirty' hand hand' (Filling lit) at =
      record { listed = at.listed; unlisted = at.unlisted; settled = at.settled; asked = record { named = at.asked.named; inside = at.asked.inside; had = at.asked.had; lacked = at.asked.lacked }; bright = at.bright; dark = at.dark }
  regrip left fresh seen dirty seen' dirty' hand hand' Linked at =
      record { listed = at.listed; listed_fresh = at.listed_fresh; leads = at.leads; means = at.means; stays = at.stays; settled = at.settled }
  regrip left fresh seen dirty seen' dirty' hand hand' Parted at =
      record { listed = at.listed; listed_fresh = at.listed_fresh; settled_left = at.settled_left; settled = at.settled }

  -- a node leads to the fresh one: its range ends at the fresh one's anchor
  pub range_below : (left fresh : Grip) → fresh.node ≢ 0 → IsLinked l f left fresh
      → range_of l f left.node ≡ below_key (λ name. range_of l f left.node name || range_of l f fresh.node name) (anchor_in (f.now fresh.node))
  range_below left fresh nonzero at = λ i name. by name i where
    by : (name : List ℕ) → range_of l f left.node name ≡ below_key (λ name. range_of l f left.node name || range_of l f fresh.node name) (anchor_in (f.now fresh.node)) name
    by name =
        let a : ℕ = anchor_in (f.now fresh.node) in
        elim (range_of l f left.node name) as (λ b. range_of l f left.node name ≡ b → b ≡ ((b || range_of l f fresh.node name) && nat_lt (key_of name) a)) [
          | true ↦ λ inside.
              let high = (inside_between l f list left.node name inside).high (λ z. nonzero (sym at.leads ∙ z)) in
              let is : anchor_in (f.now (f.now left.node next_offset)) ≡ a = ap (λ n. anchor_in (f.now n)) at.leads in
              sym (lt-ltb (key_of name) a (omega arith))
          | false ↦ λ _.
              elim (range_of l f fresh.node name) as (λ c. range_of l f fresh.node name ≡ c → false ≡ (c && nat_lt (key_of name) a)) [
                | true ↦ λ inside. let low = (inside_between l f list fresh.node name inside).low in sym (le-ltb (key_of name) a (omega arith))
                | false ↦ λ _. refl
              ] refl
        ] refl

  pub split_mine : {s : Stage} {a : Action} {x : ℕ} {t : Stage} → (k : Split l g s a x t) → SplitGave k f → Sure l g f caller index since s
      → Sure l g (split_after k f) caller index since t
  split_mine (fills {y = y} {offset = offset} {left = left} {fresh = fresh} {seen = seen} {dirty = dirty} has positive small within soils told) e knows =
      let steady = steady-word l f fresh.node offset y left.node knows.apart in
      record {
        full = grip_kept l g f (with_word f fresh.node offset y) (later-word l f fresh.node offset y) left steady knows.full;
        new = record {
          here = knows.new.here;
          stands = knows.new.stands;
          lock = knows.new.lock;
          seen = subst (Tells seen) (sym (set_here f.now fresh.node offset y fresh.node refl)) (told (f.now fresh.node) knows.new.seen);
          hand = tt;
        };
        apart = knows.apart;
        nonzero = knows.nonzero;
        at = record {
          listed = knows.at.listed;
          unlisted = knows.at.unlisted;
          settled = settled_kept l g f (with_word f fresh.node offset y) (later-word l f fresh.node offset y) left.node steady knows.at.settled;
          asked = asked_kept l g f (with_word f fresh.node offset y) (later-word l f fresh.node offset y) left steady knows.at.asked;
          bright = knows.at.bright;
          dark = knows.at.dark;
        };
      }
  split_mine (lights {left = left} {fresh = fresh} here leads) e knows =
      let steady = steady-status l f fresh.node live_status left.node knows.apart in
      record {
        full = grip_kept l g f (with_status f fresh.node live_status) (later-status l f fresh.node live_status) left steady knows.full;
        new = record { here = knows.new.here; stands = knows.new.stands; lock = knows.new.lock; seen = knows.new.seen; hand = knows.new.hand };
        apart = knows.apart;
        nonzero = knows.nonzero;
        at = record {
          listed = knows.at.listed;
          unlisted = knows.at.unlisted;
          settled = settled_kept l g f (with_status f fresh.node live_status) (later-status l f fresh.node live_status) left.node steady knows.at.settled;
          asked = asked_kept l g f (with_status f fresh.node live_status) (later-status l f fresh.node live_status) left steady knows.at.asked;
          bright = λ _. ap (λ (b : Bool). cond b live_status (f.status fresh.node)) (eq-eqb fresh.node fresh.node refl);
          dark = λ no. absurd (let none : true ≡ false = no in cc);
        };
      }
  split_mine (switches {left = left} {fresh = fresh} {seen = seen} {dirty = dirty} here small durable soiled cut told means) e knows =
      let is = cut_now l g f left fresh knows cut in
      let n = left.node in
      let y = fresh.node in
      let φ = with_next f n y in
      let listed = knows.at.listed in
      let out = knows.at.unlisted in
      let a : ℕ = anchor_in (f.now y) in
      let low : range_of l φ n ≡ below_key (range_of l f n) a = range_left l f list n y listed out knows.new.here (map_now f) is in
      let high : range_of l φ y ≡ from_key (range_of l f n) a = range_fresh l f list n y listed out knows.new.here (map_now f) is in
      let own : φ.now n ≡ updated (f.now n) next_offset y = set_here f.now n next_offset y n refl in
      let new : φ.now y ≡ f.now y = set_else f.now n next_offset y y (λ same. knows.apart (sym same)) in
      let whole : (λ name. range_of l φ n name || range_of l φ y name) ≡ range_of l f n = (λ i name. low i name || high i name) ∙ parts_are (range_of l f n) a in
      record {
        full = record { here = knows.full.here; stands = knows.full.stands; lock = knows.full.lock; seen = subst (Tells seen) (sym own) (told (f.now n) knows.full.seen); hand = tt };
        new = record {
          here = knows.new.here;
          stands = knows.new.stands;
          lock = knows.new.lock;
          seen = subst (Tells fresh.seen) (sym new) knows.new.seen;
          hand = hand_else fresh.hand knows.new.hand (λ s. s) new;
        };
        apart = knows.apart;
        nonzero = knows.nonzero;
        at = record {
          listed = listed_still l f list n y listed out knows.new.here (map_now f) is n listed;
          listed_fresh = listed_fresh l f list n y listed out knows.new.here (map_now f) is;
          leads = ap (λ (s : Spot). s next_offset) own ∙ updated-same (f.now n) next_offset y;
          means = subst (λ (r : List ℕ → Bool). Means l.slots r (φ.now n) (map_now f)) (sym whole)
              (subst (λ (s : Spot). Means l.slots (range_of l f n) s (map_now f)) (sym own) (means (range_of l f n) (f.now n) (map_now f) knows.at.settled.means));
          stays = subst (λ (r : List ℕ → Bool). StaysIn l.slots r (φ.now n)) (sym whole)
              (subst (StaysIn l.slots (range_of l f n)) (sym own)
              (stays_stored l.slots (range_of l f n) (f.now n) (updated (f.now n) next_offset y) knows.at.settled.means.tidy (λ other m was. means other (f.now n) m was) knows.at.settled.stays));
          settled = record {
            means = subst (λ (r : List ℕ → Bool). Means l.slots r (φ.now y) (map_now f)) (sym high)
                (subst (λ (s : Spot). Means l.slots (from_key (range_of l f n) a) s (map_now f)) (sym new) is.means);
            stays = subst (λ (r : List ℕ → Bool). StaysIn l.slots r (φ.now y)) (sym high) (subst (StaysIn l.slots (from_key (range_of l f n) a)) (sym new) is.stays);
          };
        };
      }
    where
      hand_else : (hand : Option (ℕ × ℕ)) → IfSome hand (λ h. cached_word f fresh.node h.0 ≡ h.1) → (Spot → Spot) → (with_next f left.node fresh.node).now fresh.node ≡ f.now fresh.node
          → IfSome hand (λ h. cached_word (with_next f left.node fresh.node) fresh.node h.0 ≡ h.1)
      hand_else None was id new = tt
      hand_else (Some h) was id new = (λ i. if h.0 == 0 then f.version fresh.node else new i h.0) ∙ was
  split_mine (glances_left {x = x} {offset = offset} {left = left} {fresh = fresh} {phase = phase} {seen = seen} has learnt) e knows = record {
    full = regrasp l g f left seen left.dirty (Some (offset, x)) (learnt (f.now left.node) knows.full.seen (told_word f left.node offset x e)) (sym e) knows.full;
    new = knows.new;
    apart = knows.apart;
    nonzero = knows.nonzero;
    at = regrip left fresh seen left.dirty fresh.seen fresh.dirty (Some (offset, x)) fresh.hand phase knows.at;
  }
  split_mine (glances_fresh {x = x} {offset = offset} {left = left} {fresh = fresh} {phase = phase} has) e knows = record {
    full = knows.full;
    new = regrasp l g f fresh fresh.seen fresh.dirty (Some (offset, x)) knows.new.seen (sym e) knows.new;
    apart = knows.apart;
    nonzero = knows.nonzero;
    at = regrip left fresh left.seen left.dirty fresh.seen fresh.dirty left.hand (Some (offset, x)) phase knows.at;
  }
  split_mine (drains_left {left = left} {fresh = fresh} {phase = phase} {dirty = dirty} has small hand cleans) e knows = record {
    full = regrasp l g f left left.seen dirty None knows.full.seen tt knows.full;
    new = knows.new;
    apart = knows.apart;
    nonzero = knows.nonzero;
    at = regrip left fresh left.seen dirty fresh.seen fresh.dirty None fresh.hand phase knows.at;
  }
  split_mine (drains_fresh {left = left} {fresh = fresh} {phase = phase} {dirty = dirty} has small hand cleans) e knows = record {
    full = knows.full;
    new = regrasp l g f fresh fresh.seen dirty None knows.new.seen tt knows.new;
    apart = knows.apart;
    nonzero = knows.nonzero;
    at = regrip left fresh left.seen left.dirty fresh.seen dirty left.hand None phase knows.at;
  }
  split_mine (trims {y = y} {key = key} {left = left} {fresh = fresh} {seen = seen} {dirty = dirty} here small durable soiled anchor told means) e knows =
      let n = left.node in
      let φ = with_word f n bitmap_offset y in
      let later = later-word l f n bitmap_offset y in
      let steady = steady-word l f n bitmap_offset y fresh.node (λ same. knows.apart (sym same)) in
      let own : φ.now n ≡ updated (f.now n) bitmap_offset y = set_here f.now n bitmap_offset y n refl in
      let both : List ℕ → Bool = λ name. range_of l f n name || range_of l f fresh.node name in
      let parts = means both (f.now n) (map_now f) knows.full.seen knows.at.means knows.at.stays in
      let is : below_key both key ≡ range_of l f n = ap (below_key both) (sym (anchor (f.now fresh.node) knows.new.seen)) ∙ sym (range_below left fresh knows.nonzero knows.at) in
      record {
        full = record { here = knows.full.here; stands = knows.full.stands; lock = knows.full.lock; seen = subst (Tells seen) (sym own) (told (f.now n) knows.full.seen); hand = tt };
        new = grip_kept l g f φ later fresh steady knows.new;
        apart = knows.apart;
        nonzero = knows.nonzero;
        at = record {
          listed = knows.at.listed;
          listed_fresh = knows.at.listed_fresh;
          settled_left = record {
            means = subst (λ (r : List ℕ → Bool). Means l.slots r (φ.now n) (map_now f)) is (subst (λ (s : Spot). Means l.slots (below_key both key) s (map_now f)) (sym own) parts.0);
            stays = subst (λ (r : List ℕ → Bool). StaysIn l.slots r (φ.now n)) is (subst (StaysIn l.slots (below_key both key)) (sym own) parts.1);
          };
          settled = settled_kept l g f φ later fresh.node steady knows.at.settled;
        };
      }
