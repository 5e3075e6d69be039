-- What a step makes of the locks, of the free nodes and of the other parties.
use Rattle.std.proofs.Common.{◌≡◌, ◌≢◌, ℕ, ◌+◌, ◌<◌, ◌≤◌, ◌⊎◌, inl, inr, ⊎_elim, Bool, true, cond, List, [], None, refl, sym, ap, ◌∙◌, subst, arith}
use Rattle.std.specs.Prelude.{◌↔◌, Option, Some, IfSome}
use Rattle.std.proofs.lemmas.Bool.{eq-eqb, ne_eqb, cases_eq}
use Rattle.pm_words.specs.Codes.{live_status, gone_status}
use Rattle.pm_words.specs.declared.layout.Layout.{Layout}
use Rattle.pm_words.specs.declared.action.Action.{Action}
use Rattle.pm_words.specs.Offsets.{bitmap_offset, next_offset}
use Rattle.version_lock.specs.Versions.{generation_of, IsFree, IsWorn}
use Rattle.version_lock.proofs.VersionFacts.{locked-rises}
use Rattle.cat_history.specs.Writes.{name_of}
use Rattle.cat_history.specs.declared.op.Change.{Change}
use Rattle.data_node.specs.Spots.{Spot, Means, updated}
use Rattle.call_stages.specs.declared.once.Once.{Once}
use Rattle.call_stages.specs.declared.once.Placed.{Placed}
use Rattle.cat_history.specs.Maps.{Map}
use Rattle.data_node.specs.Lists.{StaysIn}
use Rattle.data_node.proofs.SpotLemmas.{updated-same}
use Rattle.call_stages.specs.Stages.{Held, Grip, Tells, Filling, Stage, Idle, Saw, Wears, Reads, Holds, Eyes, Splits, Parted, Leaves, Meets, Joins, pended}
use Rattle.call_stages.specs.Kinds.{IsContent, IsCut, finds_live, watches, watches_next, turns_away, steps_back, wanders, Look, Split, fills, lights, switches, glances_left, glances_fresh, drains_left, drains_fresh, trims, splits, Merge, meets, knows_own, knows_right, copies, takes_up, puts_down, parts, gathers, joins, glances_joined, drains_joined, retires, yields, merges, peeks, peeks_status, eyes, eyes_free, passes, loses, claims, publishes, leaves}
use Rattle.call_stages.specs.Kinds.{turns_back, is_worn, wears, roams, roams_status, sees, misses, misses_read, times, learns, decides, glances, Step, looks, locks, locks_read, stores, commits, drains, counts, unlocks}
use Rattle.index_law.specs.Facts.{Facts, map_now, range_of, IsListed}
use Rattle.index_law.specs.Lawful.{IsOwnLock, IsList, IsSettled, AreKnown, AreSettled, SureHolds, SureSplits, Sure}
use Rattle.call_stages.specs.Stages.{HoldsNode}
use Rattle.std.proofs.lemmas.List.{append-nil}
use Rattle.index_law.proofs.Switch.{range_other, listed_still, listed_after, inside_listed, leads_on}
use Rattle.index_law.proofs.Past.{range_past, listed_was, listed_else}
use Rattle.data_node.proofs.ListLemmas.{all_member}
use Rattle.index_law.proofs.Bystanders.{IsLater, IsSteady, IsCalm, keeps, settled_kept, steady-status, later-version, rises-version, steady-version, later-word, steady-word, later-write, steady-write}
use Rattle.index_law.proofs.Loose.{loose_holds}
use Rattle.index_law.proofs.Moves.{fact_after, split_after, merge_after, each_given, MergeGave, Gives}
use Rattle.index_law.proofs.Rows.{with_version, word_set, set_here, set_else, set_other}
use Rattle.index_law.proofs.Versions.{own_lock, unfree, freed-free, freed-known}
use Rattle.call_stages.specs.Kinds.{reads_on}
use Rattle.index_law.proofs.Moves.{read_before, read_after}

-- the node that a party holds is locked in this run
pub own_of : (l : Layout) (g : ℕ) (f : Facts) (caller index since : ℕ) (u : Stage) (n : ℕ) → HoldsNode u n → Sure l g f caller index since u → IsOwnLock g (f.version n)
own_of l g f caller index since Idle n holds knows = absurd holds
own_of l g f caller index since (Saw m v w k) n holds knows = absurd holds
own_of l g f caller index since (Holds m w h) n holds knows = subst (λ (k : ℕ). IsOwnLock g (f.version k)) holds (subst (IsOwnLock g) (sym knows.stands) knows.lock)
own_of l g f caller index since (Eyes m w h k v u free) n holds knows = subst (λ (k : ℕ). IsOwnLock g (f.version k)) holds (subst (IsOwnLock g) (sym knows.0.stands) knows.0.lock)
own_of l g f caller index since (Wears m v) n holds knows = absurd holds
own_of l g f caller index since (Reads m v sight told) n holds knows = absurd holds
own_of l g f caller index since (Leaves left) n holds knows = subst (λ (k : ℕ). IsOwnLock g (f.version k)) holds (subst (IsOwnLock g) (sym knows.grip.stands) knows.grip.lock)
own_of l g f caller index since (Meets m w h right) n (inl e) knows = subst (λ (k : ℕ). IsOwnLock g (f.version k)) e (subst (IsOwnLock g) (sym knows.0.stands) knows.0.lock)
own_of l g f caller index since (Meets m w h right) n (inr e) knows = subst (λ (k : ℕ). IsOwnLock g (f.version k)) e (subst (IsOwnLock g) (sym knows.1.grip.stands) knows.1.grip.lock)
own_of l g f caller index since (Joins h left right pace) n (inl e) knows = subst (λ (k : ℕ). IsOwnLock g (f.version k)) e (subst (IsOwnLock g) (sym knows.one.stands) knows.one.lock)
own_of l g f caller index since (Joins h left right pace) n (inr e) knows = subst (λ (k : ℕ). IsOwnLock g (f.version k)) e (subst (IsOwnLock g) (sym knows.other.stands) knows.other.lock)
own_of l g f caller index since (Splits left fresh phase) n (inl e) knows =
    subst (λ (k : ℕ). IsOwnLock g (f.version k)) e (subst (IsOwnLock g) (sym knows.full.stands) knows.full.lock)
own_of l g f caller index since (Splits left fresh phase) n (inr e) knows =
    subst (λ (k : ℕ). IsOwnLock g (f.version k)) e (subst (IsOwnLock g) (sym knows.new.stands) knows.new.lock)

-- a stage holds a node or doesn't
pub holds_or : (u : Stage) (n : ℕ) → HoldsNode u n ⊎ (HoldsNode u n → ⊥)
holds_or Idle n = inr (λ h. h)
holds_or (Saw m v w k) n = inr (λ h. h)
holds_or (Holds m w h) n = cases_eq m n
holds_or (Eyes m w h k v u free) n = cases_eq m n
holds_or (Wears m v) n = inr (λ h. h)
holds_or (Reads m v sight told) n = inr (λ h. h)
holds_or (Leaves left) n = cases_eq left.node n
holds_or (Meets m w h right) n = ⊎_elim
    (λ e. inl (inl e))
    (λ other. ⊎_elim (λ e. inl (inr e)) (λ apart. inr (λ h. ⊎_elim other apart h)) (cases_eq right.node n))
    (cases_eq m n)
holds_or (Joins h left right pace) n = ⊎_elim
    (λ e. inl (inl e))
    (λ other. ⊎_elim (λ e. inl (inr e)) (λ apart. inr (λ h. ⊎_elim other apart h)) (cases_eq right.node n))
    (cases_eq left.node n)
holds_or (Splits left fresh phase) n = ⊎_elim
    (λ e. inl (inl e))
    (λ other. ⊎_elim (λ e. inl (inr e)) (λ apart. inr (λ h. ⊎_elim other apart h)) (cases_eq fresh.node n))
    (cases_eq left.node n)

-- what a node has where only another one's version is another
pub version_else : (f : Facts) (n w m : ℕ) → m ≢ n → (with_version f n w).version m ≡ f.version m
version_else f n w m other = ap (λ (b : Bool). cond b w (f.version m)) (ne_eqb m n other)

pub version_there : (f : Facts) (n w m : ℕ) → m ≡ n → (with_version f n w).version m ≡ w
version_there f n w m same = ap (λ (b : Bool). cond b w (f.version m)) (eq-eqb m n same)

known_after : (l : Layout) (g : ℕ) (f : Facts) (n w : ℕ) → generation_of w ≤ g → AreKnown l g f → AreKnown l g (with_version f n w)
known_after l g f n w own known m here = ⊎_elim
    (λ (same : m ≡ n). subst (λ (v : ℕ). generation_of v ≤ g) (sym (version_there f n w m same)) own)
    (λ (other : m ≡ n → ⊥). subst (λ (v : ℕ). generation_of v ≤ g) (sym (version_else f n w m other)) (known m here))
    (cases_eq m n)

-- where a node leads stays in the layout
leads_set : (now : ℕ → Spot) (n offset y most : ℕ) → (offset ≡ next_offset → y < most) → (m : ℕ) → now m next_offset < most → word_set now n offset y m next_offset < most
leads_set now n offset y most within m was = ⊎_elim
    (λ (same : m ≡ n). ⊎_elim
    (λ (is : offset ≡ next_offset).
    let stored : word_set now n offset y m next_offset ≡ y =
    ap (λ (s : Spot). s next_offset) (set_here now n offset y m same) ∙ ap (λ o. updated (now m) o y next_offset) is ∙ updated-same (now m) next_offset y in
    let small = within is in
    omega arith)
    (λ (other : offset ≢ next_offset).
    let kept : word_set now n offset y m next_offset ≡ now m next_offset = set_other now n offset y m next_offset (λ _ e. other (sym e)) in omega arith)
    (cases_eq offset next_offset))
    (λ (differ : m ≢ n). let kept : word_set now n offset y m next_offset ≡ now m next_offset = ap (λ (s : Spot). s next_offset) (set_else now n offset y m differ) in omega arith)
    (cases_eq m n)

content_next : (offset y most : ℕ) → IsContent offset → offset ≡ next_offset → y < most
content_next offset y most content is = ⊎_elim (λ bits. absurd (omega arith)) (λ far. absurd (omega arith)) content

content_anchor : (offset other : ℕ) → IsContent offset → 3 ≤ other → other ≤ 5 → other ≢ offset
content_anchor offset other content low high e = ⊎_elim (λ bits. absurd (omega arith)) (λ far. absurd (omega arith)) content

same_steady : (l : Layout) (f : Facts) (m : ℕ) → IsSteady l f f m
same_steady l f m = record { version = refl; now = refl; map = λ name inside. refl; range = refl; listed = λ is. is; unlisted = λ is. is; status = refl }

-- what the full and the fresh node mean as the one is about to lead to the other
pub cut_now : (l : Layout) (g : ℕ) (f : Facts) (left fresh : Grip) → SureSplits l g f left fresh (Filling true)
    → ((range : List ℕ → Bool) (s t : Spot) (m : Map) → Tells left.seen s → Tells fresh.seen t → Means l.slots range s m → StaysIn l.slots range s → IsCut l.slots range s t m)
    → IsCut l.slots (range_of l f left.node) (f.now left.node) (f.now fresh.node) (map_now f)
cut_now l g f left fresh mine cut =
    cut (range_of l f left.node) (f.now left.node) (f.now fresh.node) (map_now f) mine.full.seen mine.new.seen mine.at.settled.means mine.at.settled.stays

-- a version word that was read free and unworn is so still
word_was : (g : ℕ) (f : Facts) (v m : ℕ) → f.version m ≡ v → IsFree v g → (IsWorn v g → ⊥) → IsFree (f.version m) g × (IsWorn (f.version m) g → ⊥)
word_was g f v m is free unworn = (subst (λ (u : ℕ). IsFree u g) (sym is) free, λ worn. unworn (subst (λ (u : ℕ). IsWorn u g) is worn))

-- What holds of a node that a step gives back: it is listed and means the map, or it is neither listed nor LIVE.
pub record IsGivenBack (l : Layout) (g : ℕ) (f : Facts) (m : ℕ) : Type 0 where
  pub free : IsFree (f.version m) g
  pub rest : (IsListed f m × IsSettled l f m) ⊎ ((IsListed f m → ⊥) × (f.status m ≢ live_status))

module _ {l : Layout} {g : ℕ} (f : Facts) (caller index since : ℕ) where
  -- the change of a call that counts is of a name in its node's range
  counted_inside : (n w : ℕ) (h : Held) (c : Change) → SureHolds l g f caller index since n w h → h.pending ≡ Some c → range_of l f n (name_of c) ≡ true
  counted_inside n w h c knows pending =
      let about = subst (λ (p : Option Change). IfSome p (λ d. name_of d ≡ h.name)) pending knows.about in
      subst (λ (k : List ℕ). range_of l f n k ≡ true) (sym about) knows.inside

  -- a node that the split doesn't hold is steady
  split_steady : {s : Stage} {a : Action} {x : ℕ} {t : Stage} → (k : Split l g s a x t) → IsList l f → Sure l g f caller index since s
      → (m : ℕ) → (HoldsNode s m → ⊥) → IsSteady l f (split_after k f) m
  split_steady (fills {y = y} {offset = offset} {fresh = fresh} has positive small within soils told) list mine m other = steady-word l f fresh.node offset y m (λ e. other (inr (sym e)))
  split_steady (lights {fresh = fresh} here leads) list mine m other = steady-status l f fresh.node live_status m (λ e. other (inr (sym e)))
  split_steady (switches {left = left} {fresh = fresh} here small durable soiled cut told means) list mine m other =
      let is = cut_now l g f left fresh mine cut in
      let listed = mine.at.listed in
      let out = mine.at.unlisted in
      let not_left : m ≢ left.node = (λ e. other (inl (sym e))) in
      let not_fresh : m ≢ fresh.node = (λ e. other (inr (sym e))) in
      record {
        version = refl;
        now = set_else f.now left.node next_offset fresh.node m not_left;
        map = λ name inside. refl;
        range = range_other l f list left.node fresh.node listed out mine.new.here (map_now f) is m not_left not_fresh;
        listed = listed_still l f list left.node fresh.node listed out mine.new.here (map_now f) is m;
        unlisted = λ was. ⊎_elim (λ i. i) (λ e. absurd (not_fresh e)) (listed_after l f list left.node fresh.node listed out mine.new.here (map_now f) is m was);
        status = refl;
      }
  split_steady (glances_left has learnt) list mine m other = same_steady l f m
  split_steady (glances_fresh has) list mine m other = same_steady l f m
  split_steady (drains_left has small hand cleans) list mine m other = same_steady l f m
  split_steady (drains_fresh has small hand cleans) list mine m other = same_steady l f m
  split_steady (trims {y = y} {left = left} here small durable soiled anchor told means) list mine m other = steady-word l f left.node bitmap_offset y m (λ e. other (inl (sym e)))

  merge_steady : {s : Stage} {a : Action} {x : ℕ} {t : Stage} → (k : Merge l g s a x t) → IsList l f → Sure l g f caller index since s
      → (m : ℕ) → (HoldsNode s m → ⊥) → (HoldsNode t m → ⊥) → IsSteady l f (merge_after k f) m
  merge_steady (meets {m = y} {u = u} here same untimed leads) list mine m before after = steady-version l f y u m (λ e. after (inr (sym e)))
  merge_steady (knows_own has positive learnt) list mine m before after = same_steady l f m
  merge_steady (knows_right has positive told) list mine m before after = same_steady l f m
  merge_steady (copies {n = n} {y = y} {offset = offset} has content small soils learnt means) list mine m before after = steady-word l f n offset y m (λ e. before (inl (sym e)))
  merge_steady (takes_up has) list mine m before after = same_steady l f m
  merge_steady (puts_down has small hand cleans) list mine m before after = same_steady l f m
  merge_steady (parts {freed = freed} {right = right} next) list mine m before after = steady-version l f right.node freed m (λ e. before (inr (sym e)))
  merge_steady (gathers {n = n} {y = y} small durable soiled told gathered) list mine m before after = steady-word l f n bitmap_offset y m (λ e. before (inl (sym e)))
  merge_steady (joins {y = y} {left = left} {right = right} small durable soiled next told) list mine m before after =
      let not_left : m ≢ left.node = (λ e. before (inl (sym e))) in
      let not_right : m ≢ right.node = (λ e. before (inr (sym e))) in
      let listed = mine.at.linked.listed in
      let leads = mine.at.linked.leads in
      let on = next (f.now right.node) mine.other.seen in
      record {
        version = refl;
        now = set_else f.now left.node next_offset y m not_left;
        map = λ name inside. refl;
        range = range_past l f list left.node y right.node listed leads mine.nonzero on m not_left not_right;
        listed = listed_else l f list left.node y right.node listed leads mine.nonzero on m not_right;
        unlisted = listed_was l f list left.node y right.node listed leads mine.nonzero on m;
        status = refl;
      }
  merge_steady (glances_joined has learnt) list mine m before after = same_steady l f m
  merge_steady (drains_joined has small hand cleans) list mine m before after = same_steady l f m
  merge_steady (retires {right = right} durable) list mine m before after = steady-status l f right.node gone_status m (λ e. before (inr (sym e)))
  merge_steady (yields {freed = freed} {right = right} next durable) list mine m before after = steady-version l f right.node freed m (λ e. before (inr (sym e)))

  -- a node that the party doesn't hold, before or after its step, is steady
  pub steady_else : {s : Stage} {a : Action} {x : ℕ} {t : Stage} {r : Option (Once Placed)} → (k : Step l g s a x t r) → IsList l f → Sure l g f caller index since s
      → (m : ℕ) → (HoldsNode s m → ⊥) → (HoldsNode t m → ⊥) → IsSteady l f (fact_after k f caller index) m
  steady_else (looks look) list mine m before after = same_steady l f m
  steady_else (locks {n = n} {w = w} same named live between) list mine m before after = steady-version l f n w m (λ e. after (sym e))
  steady_else (locks_read {n = n} {w = w} same named live between unworn taken small) list mine m before after = steady-version l f n w m (λ e. after (sym e))
  steady_else (stores {n = n} {y = y} {offset = offset} has content small clean soils learnt means) list mine m before after = steady-word l f n offset y m (λ e. before (sym e))
  steady_else (commits {n = n} {y = y} {offset = offset} has content small clean durable soiled old about learnt means) list mine m before after =
      steady-word l f n offset y m (λ e. before (sym e))
  steady_else (drains has small unready hand cleans) list mine m before after = same_steady l f m
  steady_else (counts {n = n} {w = w} {h = h} {c = c} durable ready pending unplaced) list mine m before after =
      steady-write l f n (record { caller = caller; index = index; change = c }) m (counted_inside n w h c mine pending) (λ e. before (sym e))
  steady_else (unlocks {n = n} {f = freed} next pending durable unready answers) list mine m before after = steady-version l f n freed m (λ e. before (sym e))
  steady_else (claims {m = y} {u = u} unplaced here same) list mine m before after = steady-version l f y u m (λ e. after (inr (sym e)))
  steady_else (publishes {freed = freed} {fresh = fresh} next left fresh') list mine m before after = steady-version l f fresh.node freed m (λ e. before (inr (sym e)))
  steady_else (leaves {freed = freed} {left = left} next) list mine m before after = steady-version l f left.node freed m (λ e. before (sym e))
  steady_else (splits k) list mine m before after = split_steady k list mine m before
  steady_else (merges k) list mine m before after = merge_steady k list mine m before after

  split_goes : {s : Stage} {a : Action} {x : ℕ} {t : Stage} → (k : Split l g s a x t) → IsLater f (split_after k f)
  split_goes (fills has positive small within soils told) = record { base = refl; more = []; few = omega arith; history = sym (append-nil f.history) }
  split_goes (lights here leads) = record { base = refl; more = []; few = omega arith; history = sym (append-nil f.history) }
  split_goes (switches here small durable soiled cut told means) = record { base = refl; more = []; few = omega arith; history = sym (append-nil f.history) }
  split_goes (glances_left has learnt) = record { base = refl; more = []; few = omega arith; history = sym (append-nil f.history) }
  split_goes (glances_fresh has) = record { base = refl; more = []; few = omega arith; history = sym (append-nil f.history) }
  split_goes (drains_left has small hand cleans) = record { base = refl; more = []; few = omega arith; history = sym (append-nil f.history) }
  split_goes (drains_fresh has small hand cleans) = record { base = refl; more = []; few = omega arith; history = sym (append-nil f.history) }
  split_goes (trims here small durable soiled anchor told means) = record { base = refl; more = []; few = omega arith; history = sym (append-nil f.history) }

  merge_goes : {s : Stage} {a : Action} {x : ℕ} {t : Stage} → (k : Merge l g s a x t) → IsLater f (merge_after k f)
  merge_goes (meets here same untimed leads) = record { base = refl; more = []; few = omega arith; history = sym (append-nil f.history) }
  merge_goes (knows_own has positive learnt) = record { base = refl; more = []; few = omega arith; history = sym (append-nil f.history) }
  merge_goes (knows_right has positive told) = record { base = refl; more = []; few = omega arith; history = sym (append-nil f.history) }
  merge_goes (copies has content small soils learnt means) = record { base = refl; more = []; few = omega arith; history = sym (append-nil f.history) }
  merge_goes (takes_up has) = record { base = refl; more = []; few = omega arith; history = sym (append-nil f.history) }
  merge_goes (puts_down has small hand cleans) = record { base = refl; more = []; few = omega arith; history = sym (append-nil f.history) }
  merge_goes (parts next) = record { base = refl; more = []; few = omega arith; history = sym (append-nil f.history) }
  merge_goes (gathers small durable soiled told gathered) = record { base = refl; more = []; few = omega arith; history = sym (append-nil f.history) }
  merge_goes (joins small durable soiled next told) = record { base = refl; more = []; few = omega arith; history = sym (append-nil f.history) }
  merge_goes (glances_joined has learnt) = record { base = refl; more = []; few = omega arith; history = sym (append-nil f.history) }
  merge_goes (drains_joined has small hand cleans) = record { base = refl; more = []; few = omega arith; history = sym (append-nil f.history) }
  merge_goes (retires durable) = record { base = refl; more = []; few = omega arith; history = sym (append-nil f.history) }
  merge_goes (yields next durable) = record { base = refl; more = []; few = omega arith; history = sym (append-nil f.history) }

  -- the facts only go on
  pub goes_on : {s : Stage} {a : Action} {x : ℕ} {t : Stage} {r : Option (Once Placed)} → (k : Step l g s a x t r) → IsLater f (fact_after k f caller index)
  goes_on (looks look) = record { base = refl; more = []; few = omega arith; history = sym (append-nil f.history) }
  goes_on (locks {n = n} {w = w} same named live between) = later-version l f n w
  goes_on (locks_read {n = n} {w = w} same named live between unworn taken small) = later-version l f n w
  goes_on (stores {n = n} {y = y} {offset = offset} has content small clean soils learnt means) = later-word l f n offset y
  goes_on (commits {n = n} {y = y} {offset = offset} has content small clean durable soiled old about learnt means) = later-word l f n offset y
  goes_on (drains has small unready hand cleans) = record { base = refl; more = []; few = omega arith; history = sym (append-nil f.history) }
  goes_on (counts {c = c} durable ready pending unplaced) = later-write l f (record { caller = caller; index = index; change = c })
  goes_on (unlocks {n = n} {f = freed} next pending durable unready answers) = later-version l f n freed
  goes_on (claims {m = m} {u = u} unplaced here same) = later-version l f m u
  goes_on (publishes {freed = freed} {fresh = fresh} next left fresh') = later-version l f fresh.node freed
  goes_on (leaves {freed = freed} {left = left} next) = later-version l f left.node freed
  goes_on (splits k) = split_goes k
  goes_on (merges k) = merge_goes k

  split_versions : {s : Stage} {a : Action} {x : ℕ} {t : Stage} → (k : Split l g s a x t) → (split_after k f).version ≡ f.version
  split_versions (fills has positive small within soils told) = refl
  split_versions (lights here leads) = refl
  split_versions (switches here small durable soiled cut told means) = refl
  split_versions (glances_left has learnt) = refl
  split_versions (glances_fresh has) = refl
  split_versions (drains_left has small hand cleans) = refl
  split_versions (drains_fresh has small hand cleans) = refl
  split_versions (trims here small durable soiled anchor told means) = refl

  merge_rises : {s : Stage} {a : Action} {x : ℕ} {t : Stage} → (k : Merge l g s a x t) → MergeGave k f → Sure l g f caller index since s → (m : ℕ) → f.version m ≤ (merge_after k f).version m
  merge_rises (meets {m = y} {v = v} {u = u} here same untimed leads) e mine m =
      let is : f.version y ≡ v = sym e ∙ same in
      let rise = locked-rises v g mine.1.word.known mine.1.word.free in
      let lock = mine.1.word.lock in
      rises-version l f y u (omega arith) m
  merge_rises (knows_own has positive learnt) e mine m = omega arith
  merge_rises (knows_right has positive told) e mine m = omega arith
  merge_rises (copies has content small soils learnt means) e mine m = omega arith
  merge_rises (takes_up has) e mine m = omega arith
  merge_rises (puts_down has small hand cleans) e mine m = omega arith
  merge_rises (parts {freed = freed} {right = right} next) e mine m = let is = mine.1.grip.stands in rises-version l f right.node freed (omega arith) m
  merge_rises (gathers small durable soiled told gathered) e mine m = omega arith
  merge_rises (joins small durable soiled next told) e mine m = omega arith
  merge_rises (glances_joined has learnt) e mine m = omega arith
  merge_rises (drains_joined has small hand cleans) e mine m = omega arith
  merge_rises (retires durable) e mine m = omega arith
  merge_rises (yields {freed = freed} {right = right} next durable) e mine m = let is = mine.other.stands in rises-version l f right.node freed (omega arith) m

  -- no version word falls
  rises : {s : Stage} {a : Action} {x : ℕ} {t : Stage} {r : Option (Once Placed)} → (k : Step l g s a x t r) → Gives k f → Sure l g f caller index since s
      → (m : ℕ) → f.version m ≤ (fact_after k f caller index).version m
  rises (looks look) e mine m = omega arith
  rises (locks {n = n} {v = v} {w = w} same named live between) e mine m =
      let is : f.version n ≡ v = sym e ∙ same in
      let rise = locked-rises v g mine.word.known mine.word.free in
      let lock = mine.word.lock in
      rises-version l f n w (omega arith) m
  rises (locks_read {n = n} {v = v} {w = w} same named live between unworn taken small) e mine m =
      let is : f.version n ≡ v = sym e ∙ same in
      let rise = locked-rises v g mine.known mine.free in
      let lock = taken in
      rises-version l f n w (omega arith) m
  rises (stores has content small clean soils learnt means) e mine m = omega arith
  rises (commits has content small clean durable soiled old about learnt means) e mine m = omega arith
  rises (drains has small unready hand cleans) e mine m = omega arith
  rises (counts durable ready pending unplaced) e mine m = omega arith
  rises (unlocks {n = n} {f = freed} next pending durable unready answers) e mine m = let is = mine.stands in rises-version l f n freed (omega arith) m
  rises (claims {m = y} {v = v} {u = u} unplaced here same) e mine m =
      let is : f.version y ≡ v = sym e ∙ same in
      let rise = locked-rises v g mine.1.word.known mine.1.word.free in
      let lock = mine.1.word.lock in
      rises-version l f y u (omega arith) m
  rises (publishes {freed = freed} {fresh = fresh} next left fresh') e mine m = let is = mine.new.stands in rises-version l f fresh.node freed (omega arith) m
  rises (leaves {freed = freed} {left = left} next) e mine m = let is = mine.grip.stands in rises-version l f left.node freed (omega arith) m
  rises (merges k) e mine m = merge_rises k e mine m
  rises (splits k) e mine m = let same = ap (λ (version : ℕ → ℕ). version m) (split_versions k) in omega arith

  split_anchors : {s : Stage} {a : Action} {x : ℕ} {t : Stage} → (k : Split l g s a x t) → Sure l g f caller index since s → (m : ℕ) → IsListed f m
      → (other : ℕ) → 3 ≤ other → other ≤ 5 → (split_after k f).now m other ≡ f.now m other
  split_anchors (fills {y = y} {offset = offset} {fresh = fresh} has positive small within soils told) mine m listed other low high =
      ap (λ (s : Spot). s other) (set_else f.now fresh.node offset y m (λ e. mine.at.unlisted (subst (IsListed f) e listed)))
  split_anchors (lights here leads) mine m listed other low high = refl
  split_anchors (switches {left = left} {fresh = fresh} here small durable soiled cut told means) mine m listed other low high =
      set_other f.now left.node next_offset fresh.node m other (λ _ e. omega arith)
  split_anchors (glances_left has learnt) mine m listed other low high = refl
  split_anchors (glances_fresh has) mine m listed other low high = refl
  split_anchors (drains_left has small hand cleans) mine m listed other low high = refl
  split_anchors (drains_fresh has small hand cleans) mine m listed other low high = refl
  split_anchors (trims {y = y} {left = left} here small durable soiled anchor told means) mine m listed other low high =
      set_other f.now left.node bitmap_offset y m other (λ _ e. omega arith)

  merge_anchors : {s : Stage} {a : Action} {x : ℕ} {t : Stage} → (k : Merge l g s a x t) → Sure l g f caller index since s → (m : ℕ) → IsListed f m
      → (other : ℕ) → 3 ≤ other → other ≤ 5 → (merge_after k f).now m other ≡ f.now m other
  merge_anchors (meets here same untimed leads) mine m listed other low high = refl
  merge_anchors (knows_own has positive learnt) mine m listed other low high = refl
  merge_anchors (knows_right has positive told) mine m listed other low high = refl
  merge_anchors (copies {n = n} {y = y} {offset = offset} has content small soils learnt means) mine m listed other low high =
      set_other f.now n offset y m other (λ _ e. content_anchor offset other content low high e)
  merge_anchors (takes_up has) mine m listed other low high = refl
  merge_anchors (puts_down has small hand cleans) mine m listed other low high = refl
  merge_anchors (parts next) mine m listed other low high = refl
  merge_anchors (gathers {n = n} {y = y} small durable soiled told gathered) mine m listed other low high = set_other f.now n bitmap_offset y m other (λ _ e. omega arith)
  merge_anchors (joins {y = y} {left = left} small durable soiled next told) mine m listed other low high = set_other f.now left.node next_offset y m other (λ _ e. omega arith)
  merge_anchors (glances_joined has learnt) mine m listed other low high = refl
  merge_anchors (drains_joined has small hand cleans) mine m listed other low high = refl
  merge_anchors (retires durable) mine m listed other low high = refl
  merge_anchors (yields next durable) mine m listed other low high = refl

  -- anchors of listed nodes stay
  anchors : {s : Stage} {a : Action} {x : ℕ} {t : Stage} {r : Option (Once Placed)} → (k : Step l g s a x t r) → Sure l g f caller index since s → (m : ℕ) → IsListed f m
      → (other : ℕ) → 3 ≤ other → other ≤ 5 → (fact_after k f caller index).now m other ≡ f.now m other
  anchors (looks look) mine m listed other low high = refl
  anchors (locks same named live between) mine m listed other low high = refl
  anchors (locks_read same named live between unworn taken small) mine m listed other low high = refl
  anchors (stores {n = n} {y = y} {offset = offset} has content small clean soils learnt means) mine m listed other low high =
      set_other f.now n offset y m other (λ _ e. content_anchor offset other content low high e)
  anchors (commits {n = n} {y = y} {offset = offset} has content small clean durable soiled old about learnt means) mine m listed other low high =
      set_other f.now n offset y m other (λ _ e. content_anchor offset other content low high e)
  anchors (drains has small unready hand cleans) mine m listed other low high = refl
  anchors (counts durable ready pending unplaced) mine m listed other low high = refl
  anchors (unlocks next pending durable unready answers) mine m listed other low high = refl
  anchors (claims unplaced here same) mine m listed other low high = refl
  anchors (publishes next left fresh) mine m listed other low high = refl
  anchors (leaves next) mine m listed other low high = refl
  anchors (merges k) mine m listed other low high = merge_anchors k mine m listed other low high
  anchors (splits k) mine m listed other low high = split_anchors k mine m listed other low high

  split_leads : {s : Stage} {a : Action} {x : ℕ} {t : Stage} → (k : Split l g s a x t) → Sure l g f caller index since s → (m : ℕ) → f.now m next_offset < l.nodes
      → (split_after k f).now m next_offset < l.nodes
  split_leads (fills {y = y} {offset = offset} {fresh = fresh} has positive small within soils told) mine m was = leads_set f.now fresh.node offset y l.nodes within m was
  split_leads (lights here leads) mine m was = was
  split_leads (switches {left = left} {fresh = fresh} here small durable soiled cut told means) mine m was =
      leads_set f.now left.node next_offset fresh.node l.nodes (λ _. mine.new.here) m was
  split_leads (glances_left has learnt) mine m was = was
  split_leads (glances_fresh has) mine m was = was
  split_leads (drains_left has small hand cleans) mine m was = was
  split_leads (drains_fresh has small hand cleans) mine m was = was
  split_leads (trims {y = y} {left = left} here small durable soiled anchor told means) mine m was = leads_set f.now left.node bitmap_offset y l.nodes (λ e. absurd (omega arith)) m was

  merge_leads : {s : Stage} {a : Action} {x : ℕ} {t : Stage} → (k : Merge l g s a x t) → IsList l f → Sure l g f caller index since s → (m : ℕ) → f.now m next_offset < l.nodes
      → (merge_after k f).now m next_offset < l.nodes
  merge_leads (meets here same untimed leads) list mine m was = was
  merge_leads (knows_own has positive learnt) list mine m was = was
  merge_leads (knows_right has positive told) list mine m was = was
  merge_leads (copies {n = n} {y = y} {offset = offset} has content small soils learnt means) list mine m was =
      leads_set f.now n offset y l.nodes (content_next offset y l.nodes content) m was
  merge_leads (takes_up has) list mine m was = was
  merge_leads (puts_down has small hand cleans) list mine m was = was
  merge_leads (parts next) list mine m was = was
  merge_leads (gathers {n = n} {y = y} small durable soiled told gathered) list mine m was = leads_set f.now n bitmap_offset y l.nodes (λ e. absurd (omega arith)) m was
  merge_leads (joins {y = y} {left = left} {right = right} small durable soiled next told) list mine m was =
      let on = next (f.now right.node) mine.other.seen in
      leads_set f.now left.node next_offset y l.nodes (λ _. ⊎_elim
      (λ (last : y ≡ 0). omega arith)
      (λ (ne : y ≢ 0). ⊎_elim
      (λ (first : f.now right.node next_offset ≡ 0). absurd (ne (sym on ∙ first)))
      (λ among. let small = all_member (λ k. k < l.nodes) f.list (f.now right.node next_offset) list.within among in omega arith)
      (leads_on l f list right.node mine.at.linked.listed_fresh (λ z. ne (sym on ∙ z))))
      (cases_eq y 0)) m was
  merge_leads (glances_joined has learnt) list mine m was = was
  merge_leads (drains_joined has small hand cleans) list mine m was = was
  merge_leads (retires durable) list mine m was = was
  merge_leads (yields next durable) list mine m was = was

  -- nodes lead to nodes of the layout
  pub lead : {s : Stage} {a : Action} {x : ℕ} {t : Stage} {r : Option (Once Placed)} → (k : Step l g s a x t r) → IsList l f → Sure l g f caller index since s → (m : ℕ)
      → f.now m next_offset < l.nodes → (fact_after k f caller index).now m next_offset < l.nodes
  lead (looks look) list mine m was = was
  lead (locks same named live between) list mine m was = was
  lead (locks_read same named live between unworn taken small) list mine m was = was
  lead (stores {n = n} {y = y} {offset = offset} has content small clean soils learnt means) list mine m was =
      leads_set f.now n offset y l.nodes (content_next offset y l.nodes content) m was
  lead (commits {n = n} {y = y} {offset = offset} has content small clean durable soiled old about learnt means) list mine m was =
      leads_set f.now n offset y l.nodes (content_next offset y l.nodes content) m was
  lead (drains has small unready hand cleans) list mine m was = was
  lead (counts durable ready pending unplaced) list mine m was = was
  lead (unlocks next pending durable unready answers) list mine m was = was
  lead (claims unplaced here same) list mine m was = was
  lead (publishes next left fresh) list mine m was = was
  lead (leaves next) list mine m was = was
  lead (splits k) list mine m was = split_leads k mine m was
  lead (merges k) list mine m was = merge_leads k list mine m was

  -- a look takes no node, and gives none back
  pub look_holds : {s : Stage} {a : Action} {x : ℕ} {t : Stage} {r : Option (Once Placed)} → (k : Look l g s a x t r) → (m : ℕ) → HoldsNode s m ↔ HoldsNode t m
  look_holds (turns_back {s = s} loose here busy) m = (λ held. absurd (loose_holds s loose m held), λ lock. absurd lock)
  look_holds (wears {s = s} loose here free worn) m = (λ held. absurd (loose_holds s loose m held), λ lock. absurd lock)
  look_holds (roams has) m = (λ held. held, λ lock. lock)
  look_holds (roams_status here) m = (λ held. held, λ lock. lock)
  look_holds (is_worn has) m = (λ held. held, λ lock. lock)
  look_holds (sees {s = s} loose here free unworn lock') m = (λ held. absurd (loose_holds s loose m held), λ lock. absurd lock)
  look_holds (finds_live here is) m = (λ held. held, λ lock. lock)
  look_holds (watches has positive live next learnt) m = (λ held. held, λ lock. lock)
  look_holds (watches_next has low high ne live live' next leads learnt) m = (λ held. held, λ lock. lock)
  look_holds (turns_away {s = s} loose here up) m = (λ held. absurd (loose_holds s loose m held), λ lock. absurd lock)
  look_holds (steps_back {s = s} loose here up) m = (λ held. absurd (loose_holds s loose m held), λ lock. absurd lock)
  look_holds (wanders {s = s} loose here up) m = (λ held. absurd (loose_holds s loose m held), λ lock. absurd lock)
  look_holds (peeks here unready) m = (λ held. held, λ lock. lock)
  look_holds (peeks_status here unready) m = (λ held. held, λ lock. lock)
  look_holds (eyes clean durable here nonzero free unworn lock') m = (λ held. held, λ lock. lock)
  look_holds (eyes_free here is) m = (λ held. held, λ lock. lock)
  look_holds (passes here) m = (λ held. held, λ lock. lock)
  look_holds (loses here other) m = (λ held. held, λ lock. lock)
  look_holds (misses other) m = (λ held. held, λ lock. lock)
  look_holds (misses_read other small) m = (λ held. held, λ lock. lock)
  look_holds (times clean below) m = (λ held. held, λ lock. lock)
  look_holds (learns has positive unready learnt) m = (λ held. held, λ lock. lock)
  look_holds (decides has positive clean durable about learnt decided) m = (λ held. held, λ lock. lock)
  look_holds (reads_on {s = s} {t = t} k) m = (λ held. absurd (loose_holds s (read_before k) m held), λ lock. absurd (loose_holds t (read_after k) m lock))
  look_holds (glances has unready) m = (λ held. held, λ lock. lock)

  pub split_holds : {s : Stage} {a : Action} {x : ℕ} {t : Stage} → (k : Split l g s a x t) → (m : ℕ) → HoldsNode s m ↔ HoldsNode t m
  split_holds (fills has positive small within soils told) m = (λ held. held, λ lock. lock)
  split_holds (lights here leads) m = (λ held. held, λ lock. lock)
  split_holds (switches here small durable soiled cut told means) m = (λ held. held, λ lock. lock)
  split_holds (glances_left has learnt) m = (λ held. held, λ lock. lock)
  split_holds (glances_fresh has) m = (λ held. held, λ lock. lock)
  split_holds (drains_left has small hand cleans) m = (λ held. held, λ lock. lock)
  split_holds (drains_fresh has small hand cleans) m = (λ held. held, λ lock. lock)
  split_holds (trims here small durable soiled anchor told means) m = (λ held. held, λ lock. lock)

  merge_before : {s : Stage} {a : Action} {x : ℕ} {t : Stage} → (k : Merge l g s a x t) → MergeGave k f → Sure l g f caller index since s → (m : ℕ) → HoldsNode t m
      → HoldsNode s m ⊎ (IsFree (f.version m) g × (IsWorn (f.version m) g → ⊥))
  merge_before (meets here same untimed leads) e mine m (inl lock) = inl lock
  merge_before (meets {v = v} here same untimed leads) e mine m (inr lock) = inr (word_was g f v m (ap f.version (sym lock) ∙ sym e ∙ same) mine.1.word.free mine.1.word.unworn)
  merge_before (knows_own has positive learnt) e mine m lock = inl lock
  merge_before (knows_right has positive told) e mine m lock = inl lock
  merge_before (copies has content small soils learnt means) e mine m lock = inl lock
  merge_before (takes_up has) e mine m lock = inl lock
  merge_before (puts_down has small hand cleans) e mine m lock = inl lock
  merge_before (parts next) e mine m lock = inl (inl lock)
  merge_before (gathers small durable soiled told gathered) e mine m lock = inl lock
  merge_before (joins small durable soiled next told) e mine m lock = inl lock
  merge_before (glances_joined has learnt) e mine m lock = inl lock
  merge_before (drains_joined has small hand cleans) e mine m lock = inl lock
  merge_before (retires durable) e mine m lock = inl lock
  merge_before (yields next durable) e mine m lock = inl (inl lock)

  -- who holds a node afterwards held it, or found it free and unworn
  found_free : {s : Stage} {a : Action} {x : ℕ} {t : Stage} {r : Option (Once Placed)} → (k : Step l g s a x t r) → Gives k f → Sure l g f caller index since s
      → (m : ℕ) → HoldsNode t m → HoldsNode s m ⊎ (IsFree (f.version m) g × (IsWorn (f.version m) g → ⊥))
  found_free (looks look) e mine m lock = inl ((look_holds look m).1 lock)
  found_free (locks {v = v} same named live between) e mine m lock = inr (word_was g f v m (ap f.version (sym lock) ∙ sym e ∙ same) mine.word.free mine.word.unworn)
  found_free (locks_read {v = v} same named live between unworn taken small) e mine m lock = inr (word_was g f v m (ap f.version (sym lock) ∙ sym e ∙ same) mine.free unworn)
  found_free (stores has content small clean soils learnt means) e mine m lock = inl lock
  found_free (commits has content small clean durable soiled old about learnt means) e mine m lock = inl lock
  found_free (drains has small unready hand cleans) e mine m lock = inl lock
  found_free (counts durable ready pending unplaced) e mine m lock = inl lock
  found_free (unlocks next pending durable unready answers) e mine m lock = absurd lock
  found_free (claims unplaced here same) e mine m (inl lock) = inl lock
  found_free (claims {v = v} unplaced here same) e mine m (inr lock) = inr (word_was g f v m (ap f.version (sym lock) ∙ sym e ∙ same) mine.1.word.free mine.1.word.unworn)
  found_free (publishes next left fresh) e mine m lock = inl (inl lock)
  found_free (leaves next) e mine m lock = absurd lock
  found_free (splits k) e mine m lock = inl ((split_holds k m).1 lock)
  found_free (merges k) e mine m lock = merge_before k e mine m lock

  pub lock_before : {s : Stage} {a : Action} {x : ℕ} {t : Stage} {r : Option (Once Placed)} → (k : Step l g s a x t r) → Gives k f → Sure l g f caller index since s
      → (m : ℕ) → HoldsNode t m → HoldsNode s m ⊎ IsFree (f.version m) g
  lock_before k e mine m lock = ⊎_elim (λ was. inl was) (λ found. inr found.0) (found_free k e mine m lock)

  -- the nodes that the other parties hold are steady
  pub steadies : {s : Stage} {a : Action} {x : ℕ} {t : Stage} {r : Option (Once Placed)} → (k : Step l g s a x t r) → Gives k f → IsList l f → Sure l g f caller index since s
      → (caller' index' since' : ℕ) (u : Stage) → ((n : ℕ) → HoldsNode s n → HoldsNode u n → ⊥) → Sure l g f caller' index' since' u
      → (m : ℕ) → HoldsNode u m → IsSteady l f (fact_after k f caller index) m
  steadies k e list mine caller' index' since' u apart knows m holds =
      steady_else k list mine m (λ was. apart m was holds)
      (λ lock. ⊎_elim (λ was. apart m was holds) (λ free. unfree (f.version m) g (own_of l g f caller' index' since' u m holds knows) free) (lock_before k e mine m lock))

  -- all is calm
  pub calm : {s : Stage} {a : Action} {x : ℕ} {t : Stage} {r : Option (Once Placed)} → (k : Step l g s a x t r) → Gives k f → IsList l f → Sure l g f caller index since s
      → Sure l g (fact_after k f caller index) caller index since t → IsCalm l g f (fact_after k f caller index)
  calm {s = s} {t = t} k e list mine after = record {
    rises = λ m here. rises k e mine m;
    steady = λ m here free same. steady_else k list mine m
        (λ was. unfree (f.version m) g (own_of l g f caller index since s m was mine) free)
        (λ lock. unfree ((fact_after k f caller index).version m) g (own_of l g (fact_after k f caller index) caller index since t m lock after) (subst (λ (v : ℕ). IsFree v g) (sym same) free));
    anchors = λ m is. anchors k mine m is;
    leads = λ m was. lead k list mine m was;
    worn = λ m here free worn.
        let never : HoldsNode s m → ⊥ = λ was. unfree (f.version m) g (own_of l g f caller index since s m was mine) free in
        (steady_else k list mine m never (λ lock. ⊎_elim never (λ found. found.1 worn) (found_free k e mine m lock))).version;
  }

  -- the other parties go on as they were
  pub others : {s : Stage} {a : Action} {x : ℕ} {t : Stage} {r : Option (Once Placed)} → (k : Step l g s a x t r) → Gives k f → IsList l f → Sure l g f caller index since s
      → Sure l g (fact_after k f caller index) caller index since t
      → (caller' index' since' : ℕ) (u : Stage) → ((n : ℕ) → HoldsNode s n → HoldsNode u n → ⊥) → Sure l g f caller' index' since' u
      → Sure l g (fact_after k f caller index) caller' index' since' u
  others k e list mine after caller' index' since' u apart knows =
      keeps l g f (fact_after k f caller index) (goes_on k) caller' index' since' u list (calm k e list mine after) (steadies k e list mine caller' index' since' u apart knows) knows

  merge_known : {s : Stage} {a : Action} {x : ℕ} {t : Stage} → (k : Merge l g s a x t) → Sure l g f caller index since s → AreKnown l g f → AreKnown l g (merge_after k f)
  merge_known (meets {m = y} {v = v} {u = u} here same untimed leads) mine known m within =
      known_after l g f y u (let own = (own_lock v u g mine.1.word.known mine.1.word.unworn mine.1.word.lock).own in omega arith) known m within
  merge_known (knows_own has positive learnt) mine known m within = known m within
  merge_known (knows_right has positive told) mine known m within = known m within
  merge_known (copies has content small soils learnt means) mine known m within = known m within
  merge_known (takes_up has) mine known m within = known m within
  merge_known (puts_down has small hand cleans) mine known m within = known m within
  merge_known (parts {freed = freed} {right = right} next) mine known m within =
      known_after l g f right.node freed (subst (λ (v : ℕ). generation_of v ≤ g) (sym next) (freed-known right.lock g mine.1.grip.lock)) known m within
  merge_known (gathers small durable soiled told gathered) mine known m within = known m within
  merge_known (joins small durable soiled next told) mine known m within = known m within
  merge_known (glances_joined has learnt) mine known m within = known m within
  merge_known (drains_joined has small hand cleans) mine known m within = known m within
  merge_known (retires durable) mine known m within = known m within
  merge_known (yields {freed = freed} {right = right} next durable) mine known m within =
      known_after l g f right.node freed (subst (λ (v : ℕ). generation_of v ≤ g) (sym next) (freed-known right.lock g mine.other.lock)) known m within

  -- no version word is of a later run
  pub stays_known : {s : Stage} {a : Action} {x : ℕ} {t : Stage} {r : Option (Once Placed)} → (k : Step l g s a x t r) → Sure l g f caller index since s
      → AreKnown l g f → AreKnown l g (fact_after k f caller index)
  stays_known (looks look) mine known m here = known m here
  stays_known (locks {n = n} {v = v} {w = w} same named live between) mine known m here =
      known_after l g f n w (let own = (own_lock v w g mine.word.known mine.word.unworn mine.word.lock).own in omega arith) known m here
  stays_known (locks_read {n = n} {v = v} {w = w} same named live between unworn taken small) mine known m here =
      known_after l g f n w (let own = (own_lock v w g mine.known unworn taken).own in omega arith) known m here
  stays_known (stores has content small clean soils learnt means) mine known m here = known m here
  stays_known (commits has content small clean durable soiled old about learnt means) mine known m here = known m here
  stays_known (drains has small unready hand cleans) mine known m here = known m here
  stays_known (counts durable ready pending unplaced) mine known m here = known m here
  stays_known (unlocks {n = n} {w = w} {f = freed} next pending durable unready answers) mine known m here =
      known_after l g f n freed (subst (λ (v : ℕ). generation_of v ≤ g) (sym next) (freed-known w g mine.lock)) known m here
  stays_known (claims {m = y} {v = v} {u = u} unplaced here same) mine known m within =
      known_after l g f y u (let own = (own_lock v u g mine.1.word.known mine.1.word.unworn mine.1.word.lock).own in omega arith) known m within
  stays_known (publishes {freed = freed} {fresh = fresh} next left fresh') mine known m within =
      known_after l g f fresh.node freed (subst (λ (v : ℕ). generation_of v ≤ g) (sym next) (freed-known fresh.lock g mine.new.lock)) known m within
  stays_known (leaves {freed = freed} {left = left} next) mine known m within =
      known_after l g f left.node freed (subst (λ (v : ℕ). generation_of v ≤ g) (sym next) (freed-known left.lock g mine.grip.lock)) known m within
  stays_known (merges k) mine known m here = merge_known k mine known m here
  stays_known (splits k) mine known m here = subst (λ (version : ℕ → ℕ). generation_of (version m) ≤ g) (sym (split_versions k)) (known m here)

  merge_back : {s : Stage} {a : Action} {x : ℕ} {t : Stage} → (k : Merge l g s a x t) → IsList l f → Sure l g f caller index since s
      → (m : ℕ) → HoldsNode s m → (HoldsNode t m → ⊥) → IsGivenBack l g (merge_after k f) m
  merge_back k list mine m held gone = each_given f k m (λ s φ. Sure l g f caller index since s → IsGivenBack l g φ m)
      (λ n w freed h right next held mine. record {
        free = subst (λ (v : ℕ). IsFree v g) (sym (version_there f right.node freed m (sym held) ∙ next)) (freed-free right.lock g mine.1.grip.lock);
        rest = inl (
          subst (IsListed f) (mine.1.leads ∙ held) (leads_on l f list n (inside_listed l f list n _ mine.0.inside) (λ z. mine.1.nonzero (sym mine.1.leads ∙ z))),
          subst (IsSettled l (with_version f right.node freed)) held (record { means = mine.1.settled.means; stays = mine.1.settled.stays }),
        );
      })
      (λ freed h left right next held mine. record {
        free = subst (λ (v : ℕ). IsFree v g) (sym (version_there f right.node freed m (sym held) ∙ next)) (freed-free right.lock g mine.other.lock);
        rest = inr (
          λ is. mine.at.unlisted (subst (IsListed f) (sym held) is),
          λ lit. absurd (let no : 2 ≡ 1 = sym mine.at.gone ∙ ap f.status held ∙ lit in omega arith),
        );
      })
      held gone mine

  -- what holds at each store that gives a node back holds of each node that a step gives back
  pub each_freed : {s : Stage} {a : Action} {x : ℕ} {t : Stage} {r : Option (Once Placed)} → (k : Step l g s a x t r) → (m : ℕ) → (P : Stage → Facts → Type 0)
      → ((n w freed : ℕ) (h : Held) → freed ≡ w + 1 → h.pending ≡ None → h.dirty ≡ [] → n ≡ m → P (Holds n w h) (with_version f n freed))
      → ((freed : ℕ) (left fresh : Grip) → freed ≡ fresh.lock + 1 → fresh.node ≡ m → P (Splits left fresh Parted) (with_version f fresh.node freed))
      → ((freed : ℕ) (left : Grip) → freed ≡ left.lock + 1 → left.node ≡ m → P (Leaves left) (with_version f left.node freed))
      → ((k : Merge l g s a x t) → P s (merge_after k f)) → HoldsNode s m → (HoldsNode t m → ⊥) → P s (fact_after k f caller index)
  each_freed (looks look) m P unlock publish leave merge held gone = absurd (gone ((look_holds look m).0 held))
  each_freed (locks same named live between) m P unlock publish leave merge held gone = absurd held
  each_freed (locks_read same named live between unworn taken small) m P unlock publish leave merge held gone = absurd held
  each_freed (stores has content small clean soils learnt means) m P unlock publish leave merge held gone = absurd (gone held)
  each_freed (commits has content small clean durable soiled old about learnt means) m P unlock publish leave merge held gone = absurd (gone held)
  each_freed (drains has small unready hand cleans) m P unlock publish leave merge held gone = absurd (gone held)
  each_freed (counts durable ready pending unplaced) m P unlock publish leave merge held gone = absurd (gone held)
  each_freed (unlocks {n = n} {w = w} {f = freed} {h = h} next pending durable unready answers) m P unlock publish leave merge held gone = unlock n w freed h next pending durable held
  each_freed (claims unplaced here same) m P unlock publish leave merge held gone = absurd (gone (inl held))
  each_freed (publishes next left_durable durable) m P unlock publish leave merge (inl held) gone = absurd (gone held)
  each_freed (publishes {freed = freed} {left = left} {fresh = fresh} next left_durable durable) m P unlock publish leave merge (inr held) gone = publish freed left fresh next held
  each_freed (leaves {freed = freed} {left = left} next) m P unlock publish leave merge held gone = leave freed left next held
  each_freed (splits k) m P unlock publish leave merge held gone = absurd (gone ((split_holds k m).0 held))
  each_freed (merges k) m P unlock publish leave merge held gone = merge k

  pub given_back : {s : Stage} {a : Action} {x : ℕ} {t : Stage} {r : Option (Once Placed)} → (k : Step l g s a x t r) → IsList l f → Sure l g f caller index since s
      → (m : ℕ) → HoldsNode s m → (HoldsNode t m → ⊥) → IsGivenBack l g (fact_after k f caller index) m
  given_back k list mine m held gone = each_freed k m (λ s φ. Sure l g f caller index since s → IsGivenBack l g φ m)
      (λ n w freed h next pending durable is mine. record {
        free = subst (λ (v : ℕ). IsFree v g) (sym (version_there f n freed m (sym is) ∙ next)) (freed-free w g mine.lock);
        rest = inl (
          subst (IsListed f) is (inside_listed l f list n h.name mine.inside),
          subst (IsSettled l (with_version f n freed)) is
              (record { means = subst (λ (p : Option Change). Means l.slots (range_of l f n) (f.now n) (pended p (map_now f))) pending mine.means; stays = mine.stays }),
        );
      })
      (λ freed left fresh next is mine. record {
        free = subst (λ (v : ℕ). IsFree v g) (sym (version_there f fresh.node freed m (sym is) ∙ next)) (freed-free fresh.lock g mine.new.lock);
        rest = inl (subst (IsListed f) is mine.at.listed_fresh, subst (IsSettled l (with_version f fresh.node freed)) is (record { means = mine.at.settled.means; stays = mine.at.settled.stays }));
      })
      (λ freed left next is mine. record {
        free = subst (λ (v : ℕ). IsFree v g) (sym (version_there f left.node freed m (sym is) ∙ next)) (freed-free left.lock g mine.grip.lock);
        rest = inl (subst (IsListed f) is mine.listed, subst (IsSettled l (with_version f left.node freed)) is (record { means = mine.settled.means; stays = mine.settled.stays }));
      })
      (λ k mine. merge_back k list mine m held gone)
      held gone mine

  -- each listed free node means the map on its range
  pub settles : {s : Stage} {a : Action} {x : ℕ} {t : Stage} {r : Option (Once Placed)} → (k : Step l g s a x t r) → IsList l f → Sure l g f caller index since s
      → Sure l g (fact_after k f caller index) caller index since t → AreSettled l g f → AreSettled l g (fact_after k f caller index)
  settles {s = s} {t = t} k list mine after settled m is free = ⊎_elim
      (λ (held : HoldsNode t m). absurd (unfree ((fact_after k f caller index).version m) g (own_of l g (fact_after k f caller index) caller index since t m held after) free))
      (λ (gone : HoldsNode t m → ⊥). ⊎_elim
      (λ (held : HoldsNode s m). ⊎_elim (λ there. there.1) (λ out. absurd (out.0 is)) (given_back k list mine m held gone).rest)
      (λ (never : HoldsNode s m → ⊥).
      let steady = steady_else k list mine m never gone in
      settled_kept l g f (fact_after k f caller index) (goes_on k) m steady (settled m (steady.unlisted is) (subst (λ (v : ℕ). IsFree v g) steady.version free)))
      (holds_or s m))
      (holds_or t m)

  -- what becomes of a node's lock: it is free, or the party has it, or the step and the party leave it alone
  pub lock_after : {s : Stage} {a : Action} {x : ℕ} {t : Stage} {r : Option (Once Placed)} → (k : Step l g s a x t r) → IsList l f → Sure l g f caller index since s
      → (m : ℕ) → IsFree ((fact_after k f caller index).version m) g ⊎ (HoldsNode t m ⊎ ((HoldsNode s m → ⊥) × ((fact_after k f caller index).version m ≡ f.version m)))
  lock_after {s = s} {t = t} k list mine m = ⊎_elim
      (λ (held : HoldsNode t m). inr (inl held))
      (λ (gone : HoldsNode t m → ⊥). ⊎_elim
      (λ (held : HoldsNode s m). inl (given_back k list mine m held gone).free)
      (λ (never : HoldsNode s m → ⊥). inr (inr (never, (steady_else k list mine m never gone).version)))
      (holds_or s m))
      (holds_or t m)
