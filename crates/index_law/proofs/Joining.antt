-- What a party knows after a step of its merge.
use Rattle.std.proofs.Common.{◌≡◌, ◌≢◌, ℕ, ◌⊎◌, inl, inr, Bool, true, false, cond, List, [], ◌∷◌, refl, sym, ap, ◌∙◌, subst, arith}
use Rattle.std.specs.Prelude.{◌==◌, ◌||◌, Option, None, Some, IfSome}
use Rattle.std.specs.List.{AllByRecursion}
use Rattle.std.proofs.lemmas.Bool.{ne_eqb, eq-eqb}
use Rattle.pm_words.specs.Codes.{gone_status}
use Rattle.pm_words.specs.declared.layout.Layout.{Layout}
use Rattle.pm_words.specs.declared.action.Action.{Action}
use Rattle.pm_words.specs.Offsets.{bitmap_offset, next_offset}
use Rattle.version_lock.specs.Versions.{IsFree}
use Rattle.cat_history.specs.declared.op.Change.{Change}
use Rattle.data_node.specs.Spots.{Spot, Means, updated}
use Rattle.data_node.specs.Lists.{anchor_in, StaysIn}
use Rattle.data_node.specs.Weights.{names_in}
use Rattle.data_node.proofs.SpotLemmas.{updated-same, updated-other}
use Rattle.data_node.proofs.NameCounts.{same_names}
use Rattle.call_stages.specs.Stages.{Knows, KnowsDurable, IsAmong, Known, Held, Grip, Tells, AreCopies, Pace, Gathered, Joined, Gone, Stage, pended}
use Rattle.call_stages.specs.Kinds.{IsGathered, from_key, Merge, meets, knows_own, knows_right, copies, takes_up, puts_down, parts, gathers, joins, glances_joined, drains_joined, retires, yields}
use Rattle.index_law.specs.Facts.{Facts, map_now, range_of, IsListed, cached_word}
use Rattle.index_law.specs.Lawful.{IsList, AreLive, AreKnown, AreSettled, SureHolds, SureMeets, IsAtPace, Sure}
use Rattle.index_law.proofs.Moves.{merge_after, MergeGave}
use Rattle.index_law.proofs.Rows.{with_version, with_word, with_past, set_here, set_else, links_content}
use Rattle.index_law.proofs.Switch.{inside_listed, leads_on, one_range, anchors_set}
use Rattle.index_law.proofs.Past.{range_joined, range_right, listed_else, listed_not, right_above, right_anchor, anchor_inside}
use Rattle.index_law.proofs.Bystanders.{regrasp, told_word, settled_kept, grip_kept, holds_kept, later-version, steady-version, later-word, steady-word}
use Rattle.index_law.proofs.Stays.{stays_stored, means_beside}
use Rattle.index_law.proofs.Versions.{own_lock, unfree}

-- what is known of the words is known of those that are durable
known_words : (h : Held) (s : Spot) (seen : List (ℕ × ℕ)) → AllByRecursion (λ (w : ℕ × ℕ). s w.0 ≡ w.1) seen → AllByRecursion (λ (w : ℕ × ℕ). IsAmong h.dirty w.0 ⊎ (s w.0 ≡ w.1)) seen
known_words h s [] all = tt
known_words h s (w ∷ seen) all = (inr all.0, known_words h s seen all.1)

or_true : (b : Bool) → (b || true) ≡ true
or_true true = refl
or_true false = refl

module _ (l : Layout) (g : ℕ) (f : Facts) (caller index since : ℕ) where
  -- the call at the node that it holds, with other words known, dirty or in hand
  pub again : (n w : ℕ) (h : Held) (known : Known) (dirty : List (ℕ × ℕ)) (hand : Option (ℕ × ℕ)) (ready : Bool) → Knows h.name known (f.now n) → IfSome hand (λ k. cached_word f n k.0 ≡ k.1)
      → SureHolds l g f caller index since n w h → SureHolds l g f caller index since n w (record h { known = known; dirty = dirty; hand = hand; ready = ready })
  again n w h known dirty hand ready knows is sure = assumption sure

  meets_again : (n : ℕ) (h : Held) (right : Grip) (known : Known) (dirty : List (ℕ × ℕ)) (hand : Option (ℕ × ℕ)) → SureMeets l g f n h right
      → SureMeets l g f n (record h { known = known; dirty = dirty; hand = hand }) right
  meets_again n h right known dirty hand sure = assumption sure

  rejoin : (left right : Grip) (seen dirty : List (ℕ × ℕ)) (hand : Option (ℕ × ℕ)) (pace : Pace) → IsAtPace l f left right pace
      → IsAtPace l f (record left { seen = seen; dirty = dirty; hand = hand }) right pace
  rejoin left right seen dirty hand Gathered at = assumption at
  rejoin left right seen dirty hand Joined at = search at
  rejoin left right seen dirty hand Gone at = search at

  module _ (known : AreKnown l g f) (list : IsList l f) (live : AreLive l g f) (settled : AreSettled l g f) where
    pub merge_mine : {s : Stage} {a : Action} {x : ℕ} {t : Stage} → (k : Merge l g s a x t) → MergeGave k f → Sure l g f caller index since s
        → Sure l g (merge_after k f) caller index since t
    merge_mine (meets {n = n} {w = w} {m = m} {v = v} {u = u} {h = h} here same untimed leads) e knows =
        let is : f.version m ≡ v = sym e ∙ same in
        let free : IsFree (f.version m) g = subst (λ (z : ℕ). IsFree z g) (sym is) knows.1.word.free in
        let one : m ≢ n = (λ d. unfree w g knows.0.lock (subst (λ (z : ℕ). IsFree z g) (sym is ∙ ap f.version d ∙ knows.0.stands) knows.1.word.free)) in
        let to : f.now n next_offset ≡ m = leads (f.now n) knows.0.knows in
        let listed : IsListed f m = subst (IsListed f) to (leads_on l f list n (inside_listed l f list n h.name knows.0.inside) (λ z. knows.1.nonzero (sym to ∙ z))) in (
          holds_kept l g f (with_version f m u) (later-version l f m u) n (steady-version l f m u n (λ d. one (sym d))) caller index since w h knows.0,
          record {
            still = knows.1.clean;
            untimed = untimed.untimed;
            unmerged = untimed.unmerged;
            grip = record { here = here; stands = ap (λ (b : Bool). cond b u (f.version m)) (eq-eqb m m refl); lock = own_lock v u g knows.1.word.known knows.1.word.unworn knows.1.word.lock; seen = tt; hand = tt };
            copies = tt;
            apart = λ d. one (sym d);
            nonzero = knows.1.nonzero;
            leads = to;
            settled = record { means = (settled m listed free).means; stays = (settled m listed free).stays };
          },
        )
    merge_mine (knows_own {n = n} {w = w} {h = h} {right = right} {k = k} has positive learnt) e knows = (
      again n w h k h.dirty h.hand h.ready (learnt (f.now n) knows.0.means.tidy knows.0.knows (sym e)) knows.0.hand knows.0,
      meets_again n h right k h.dirty h.hand knows.1,
    )
    merge_mine (knows_right {right = right} {seen = seen} has positive told) e knows = (
      knows.0,
      (let grip = regrasp l g f right seen right.dirty right.hand (told (f.now right.node) knows.1.grip.seen (sym e)) knows.1.grip.hand knows.1.grip in assumption (knows.1, grip)),
    )
    merge_mine (copies {n = n} {w = w} {y = y} {offset = offset} {h = h} {right = right} {k = k} {dirty = dirty} {seen = seen} {copied = copied} has content small soils learnt means) e knows =
        let φ = with_word f n offset y in
        let later = later-word l f n offset y in
        let other = steady-word l f n offset y right.node (λ d. knows.1.apart (sym d)) in
        let own : φ.now n ≡ updated (f.now n) offset y = set_here f.now n offset y n refl in
        let new : φ.now right.node ≡ f.now right.node = set_else f.now n offset y right.node (λ d. knows.1.apart (sym d)) in
        let told = learnt (f.now n) (f.now right.node) knows.0.means.tidy knows.0.knows knows.1.grip.seen knows.1.copies in
        let durably : KnowsDurable h (f.now n) = known_words h (f.now n) h.known.seen knows.0.knows.seen in
        let known = subst (Knows h.name k) (sym own) told.0 in
        let meant = subst (λ (s : Spot). Means l.slots (range_of l f n) s (pended h.pending (map_now f))) (sym own)
        (means (range_of l f n) (f.now n) (pended h.pending (map_now f)) durably knows.0.means) in
        let stays = subst (StaysIn l.slots (range_of l f n)) (sym own)
        (stays_stored l.slots (range_of l f n) (f.now n) (updated (f.now n) offset y) knows.0.means.tidy (λ range m was. means range (f.now n) m durably was) knows.0.stays) in
        let kept = grip_kept l g f φ later right other knows.1.grip in
        let now = subst (Tells seen) (sym new) told.1 in
        let copies = (λ (s t : Spot) (is : updated (f.now n) offset y ≡ s) (same : f.now right.node ≡ t). subst (λ q. AreCopies copied q t) is (subst (AreCopies copied (updated (f.now n) offset y)) same told.2))
        (φ.now n) (φ.now right.node) (sym own) (sym new) in
        let leads = (links_content f.now n offset y content n).0 ∙ knows.1.leads in
        let settled = settled_kept l g f φ later right.node other knows.1.settled in
        (assumption (knows.0, known, meant, stays), assumption (knows.1, kept, now, copies, leads, settled))
    merge_mine (takes_up {n = n} {w = w} {x = x} {offset = offset} {h = h} {right = right} has) e knows =
        (again n w h h.known h.dirty (Some (offset, x)) h.ready knows.0.knows (sym e) knows.0, meets_again n h right h.known h.dirty (Some (offset, x)) knows.1)
    merge_mine (puts_down {n = n} {w = w} {h = h} {right = right} {dirty = dirty} has small hand cleans) e knows =
        (again n w h h.known dirty None h.ready knows.0.knows tt knows.0, meets_again n h right h.known dirty None knows.1)
    merge_mine (parts {n = n} {w = w} {freed = freed} {h = h} {right = right} next) e knows =
        holds_kept l g f (with_version f right.node freed) (later-version l f right.node freed) n (steady-version l f right.node freed n knows.1.apart) caller index since w h knows.0
    merge_mine (gathers {n = n} {w = w} {y = y} {h = h} {right = right} {seen = seen} {dirty = dirty} small durable soiled told gathered) e knows =
        let φ = with_word f n bitmap_offset y in
        let later = later-word l f n bitmap_offset y in
        let other = steady-word l f n bitmap_offset y right.node (λ d. knows.1.apart (sym d)) in
        let own : φ.now n ≡ updated (f.now n) bitmap_offset y = set_here f.now n bitmap_offset y n refl in
        let clean : Means l.slots (range_of l f n) (f.now n) (map_now f) =
        subst (λ (p : Option Change). Means l.slots (range_of l f n) (f.now n) (pended p (map_now f))) knows.1.still.pending knows.0.means in
        let is : IsGathered l.slots (range_of l f n) (range_of l f right.node) (updated (f.now n) bitmap_offset y) (map_now f) =
        gathered (range_of l f n) (range_of l f right.node) (f.now n) (f.now right.node) (map_now f)
        (λ name inside inside'. knows.1.apart (one_range l f n right.node name inside inside')) knows.0.knows knows.1.grip.seen knows.1.copies clean knows.0.stays knows.1.settled.means knows.1.settled.stays in
        let both : List ℕ → Bool = λ name. range_of l f n name || range_of l f right.node name in
        let listed : IsListed f n = inside_listed l f list n h.name knows.0.inside in
        record {
          call = assumption (knows.0, knows.1);
          one = record { here = knows.0.here; stands = knows.0.stands; lock = knows.0.lock; seen = subst (Tells seen) (sym own) (told (f.now n) knows.0.knows); hand = tt };
          other = grip_kept l g f φ later right other knows.1.grip;
          apart = knows.1.apart;
          nonzero = knows.1.nonzero;
          at = record {
            linked = record {
              listed = listed;
              listed_fresh = subst (IsListed f) knows.1.leads (leads_on l f list n listed (λ z. knows.1.nonzero (sym knows.1.leads ∙ z)));
              leads = (links_content f.now n bitmap_offset y (inl refl) n).0 ∙ knows.1.leads;
              means = subst (λ (s : Spot). Means l.slots both s (map_now f)) (sym own) is.means;
              stays = subst (StaysIn l.slots both) (sym own) is.stays;
              settled = settled_kept l g f φ later right.node other knows.1.settled;
            };
            few = let few = is.few in let same = ap (names_in l.slots both) own in omega arith;
          };
        }
    merge_mine (joins {y = y} {h = h} {left = left} {right = right} {seen = seen} {dirty = dirty} small durable soiled next told) e knows =
        let n = left.node in
        let r = right.node in
        let φ = with_past f n y r in
        let was = knows.at.linked in
        let on : f.now r next_offset ≡ y = next (f.now r) knows.other.seen in
        let own : φ.now n ≡ updated (f.now n) next_offset y = set_here f.now n next_offset y n refl in
        let new : φ.now r ≡ f.now r = set_else f.now n next_offset y r (λ d. knows.apart (sym d)) in
        let both : List ℕ → Bool = λ name. range_of l f n name || range_of l f r name in
        let wide : range_of l φ n ≡ both = range_joined l f list n y r was.listed was.leads knows.nonzero on in
        let high : range_of l f r ≡ from_key both (anchor_in (f.now r)) = range_right l f list n y r was.listed was.leads knows.nonzero on in
        let means : Means l.slots both (updated (f.now n) next_offset y) (map_now f) =
        means_beside l.slots both (f.now n) (updated (f.now n) next_offset y) (map_now f) (λ other apart. updated-other (f.now n) next_offset y other apart) was.means in
        let anchor = right_anchor l f list n y r was.listed was.leads knows.nonzero on in
        let names : names_in l.slots both (updated (f.now n) next_offset y) ≡ names_in l.slots both (f.now n) =
        same_names l.slots both (updated (f.now n) next_offset y) (f.now n) (map_now f) means was.means in
        let all : names_in l.slots (range_of l φ n) (φ.now n) ≡ names_in l.slots both (updated (f.now n) next_offset y) = (λ i. names_in l.slots (wide i) (own i)) in
        let inside : range_of l φ n h.name ≡ true = (λ i. wide i h.name) ∙ ap (λ b. b || range_of l f r h.name) knows.call.inside in
        let told_own = subst (Tells seen) (sym own) (told (f.now n) knows.one.seen) in
        let told_other = subst (Tells right.seen) (sym new) knows.other.seen in
        record {
          call = assumption (knows.call, inside);
          one = assumption (knows.one, told_own);
          other = assumption (knows.other, told_other, hand_else right.hand knows.other.hand new);
          apart = knows.apart;
          nonzero = knows.nonzero;
          at = record {
            listed = listed_else l f list n y r was.listed was.leads knows.nonzero on n knows.apart was.listed;
            unlisted = listed_not l f list n y r was.listed was.leads knows.nonzero on;
            settled = record {
              means = subst (λ (q : List ℕ → Bool). Means l.slots q (φ.now n) (map_now f)) (sym wide) (subst (λ (s : Spot). Means l.slots both s (map_now f)) (sym own) means);
              stays = subst (λ (q : List ℕ → Bool). StaysIn l.slots q (φ.now n)) (sym wide) (subst (StaysIn l.slots both) (sym own)
                  (stays_stored l.slots both (f.now n) (updated (f.now n) next_offset y) was.means.tidy
                  (λ range m is. means_beside l.slots range (f.now n) (updated (f.now n) next_offset y) m (λ other apart. updated-other (f.now n) next_offset y other apart) is) was.stays));
            };
            bright = live.live r was.listed_fresh;
            leads = ap (λ (s : Spot). s next_offset) own ∙ updated-same (f.now n) next_offset y ∙ sym on ∙ sym (ap (λ (s : Spot). s next_offset) new);
            anchor = anchor.0;
            named = anchor.1;
            anchored = ap anchor_in new ∙ anchor.2;
            inside = (λ i. wide i anchor.0) ∙ ap (λ b. range_of l f n anchor.0 || b) (anchor_inside l f list n y r was.listed was.leads knows.nonzero on anchor.0 anchor.1 anchor.2)
                ∙ or_true (range_of l f n anchor.0);
            up = let up = right_above l f list n y r was.listed was.leads knows.nonzero on in let low = anchors_set f.now n y n in let same = ap anchor_in new in omega arith;
            kept = subst (λ (s : Spot). Means l.slots (from_key (range_of l φ n) (anchor_in s)) s (map_now f)) (sym new)
                (subst (λ (q : List ℕ → Bool). Means l.slots (from_key q (anchor_in (f.now r))) (f.now r) (map_now f)) (sym wide)
                (subst (λ (q : List ℕ → Bool). Means l.slots q (f.now r) (map_now f)) high was.settled.means));
            few = let few = knows.at.few in omega arith;
          };
        }
      where
        hand_else : (hand : Option (ℕ × ℕ)) → IfSome hand (λ k. cached_word f right.node k.0 ≡ k.1) → (with_past f left.node y right.node).now right.node ≡ f.now right.node
            → IfSome hand (λ k. cached_word (with_past f left.node y right.node) right.node k.0 ≡ k.1)
        hand_else None was new = tt
        hand_else (Some k) was new = (λ i. cond (k.0 == 0) (f.version right.node) (new i k.0)) ∙ was
    merge_mine (glances_joined {x = x} {offset = offset} {left = left} {right = right} {pace = pace} {seen = seen} has learnt) e knows =
        let one = regrasp l g f left seen left.dirty (Some (offset, x)) (learnt (f.now left.node) knows.one.seen (told_word f left.node offset x e)) (sym e) knows.one in
        let at = rejoin left right seen left.dirty (Some (offset, x)) pace knows.at in
        assumption (knows, one, at)
    merge_mine (drains_joined {left = left} {right = right} {pace = pace} {dirty = dirty} has small hand cleans) e knows =
        let one = regrasp l g f left left.seen dirty None knows.one.seen tt knows.one in
        let at = rejoin left right left.seen dirty None pace knows.at in
        assumption (knows, one, at)
    merge_mine (retires {left = left} {right = right} durable) e knows = record {
      call = assumption knows.call;
      one = assumption knows.one;
      other = assumption knows.other;
      apart = knows.apart;
      nonzero = knows.nonzero;
      at = record {
        listed = knows.at.listed;
        unlisted = knows.at.unlisted;
        settled = record { means = knows.at.settled.means; stays = knows.at.settled.stays };
        gone = ap (λ (b : Bool). cond b gone_status (f.status right.node)) (eq-eqb right.node right.node refl);
        anchor = knows.at.anchor;
        named = knows.at.named;
        anchored = knows.at.anchored;
        inside = knows.at.inside;
      };
    }
    merge_mine (yields {freed = freed} {h = h} {left = left} {right = right} next durable) e knows =
        let stands = ap (λ (b : Bool). cond b freed (f.version left.node)) (ne_eqb left.node right.node knows.apart) ∙ knows.one.stands in
        assumption (knows.one, knows.call, knows.at.settled, stands)
