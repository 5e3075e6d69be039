-- What a party knows after its own step, and that its answer is legal.
use Rattle.std.proofs.Common.{◌≡◌, ◌≢◌, ℕ, ◌<◌, ◌≤◌, ◌⊎◌, inl, inr, Bool, cond, List, [], ◌∷◌, ◌++◌, length, refl, sym, ap, ◌∙◌, subst, arith}
use Rattle.std.specs.Prelude.{true, false, slice_get, is_some, Option, Some, None, IfSome, IsSome}
use Rattle.std.specs.List.{AllByRecursion}
use Rattle.std.proofs.lemmas.Bool.{ne_eqb, eq-eqb}
use Rattle.std.proofs.lemmas.List.{length-append}
use Rattle.pm_words.specs.declared.layout.Layout.{Layout}
use Rattle.pm_words.specs.declared.action.Action.{Action}
use Rattle.pm_words.specs.Offsets.{next_offset}
use Rattle.version_lock.specs.Versions.{generation_of, IsFree}
use Rattle.cat_history.specs.Maps.{Map, at}
use Rattle.cat_history.specs.Writes.{changed, name_of, after}
use Rattle.cat_history.specs.declared.op.Change.{Change}
use Rattle.cat_history.specs.declared.op.Write.{Write}
use Rattle.cat_key.specs.Names.{IsName}
use Rattle.data_node.proofs.CountLemmas.{full_has_in}
use Rattle.data_node.specs.Spots.{Spot, Means, updated}
use Rattle.data_node.specs.Lists.{key_of, IsBetween, StaysIn}
use Rattle.call_stages.specs.declared.once.Once.{Once}
use Rattle.call_stages.specs.declared.once.Placed.{Placed}
use Rattle.call_stages.specs.Stages.{Knows, KnowsDurable, IsAmong, Held, Sight, Sees, just_held, Stage, Idle, Saw, Wears, Reads, Holds, Eyes, Splits, Leaves, Meets, Joins, pended}
use Rattle.call_stages.specs.Kinds.{finds_live, watches, watches_next, turns_away, steps_back, wanders, fills, lights, switches, glances_left, glances_fresh, drains_left, drains_fresh, trims, meets, knows_own, knows_right, copies, takes_up, puts_down, parts, gathers, joins, glances_joined, drains_joined, retires, yields, merges, splits, peeks, peeks_status, eyes, eyes_free, passes, loses, claims, publishes, leaves}
use Rattle.call_stages.specs.Kinds.{Look, turns_back, is_worn, wears, roams, roams_status, sees, misses, misses_read, times, learns, decides, glances, Answers, writes, reads, is_spent, has_no_room, refuses, Step, looks, locks, locks_read, stores, commits, drains, counts, unlocks}
use Rattle.index_law.specs.Facts.{Facts, map_now, range_of}
use Rattle.index_law.specs.Lawful.{IsList, AreLive, AreKnown, AreSettled, IsTime, HasWriteAt, IsPlaced, map_before, IsOwnLock, Stands, SureHolds, Sure}
use Rattle.index_law.specs.Laws.{loads_clock, loads_word, loads_status, loads_prev, exchanges, exchanges_read, stores_word, stores_status, drains_word, adds, claims_node, frees_fresh, frees_left, frees_met, frees_right, frees, IsWithin, StepIsAllowed, IsLegalHeld, IsLegal}
use Rattle.index_law.proofs.Maps.{after_all-push, after-longer, after-whole, slice_get-last, means_alike}
use Rattle.index_law.proofs.Moves.{fact_after, Gave, Gives, content_positive}
use Rattle.index_law.proofs.Rows.{with_version, with_word}
use Rattle.index_law.proofs.Switch.{between_inside, inside_listed}
use Rattle.index_law.proofs.Bystanders.{grip_kept, later-version, steady-version, saw_on, eyes_on}
use Rattle.index_law.proofs.Versions.{own_lock, unfree}
use Rattle.index_law.proofs.Reading.{read_allowed, read_mine, read_legal, stands_live, stands_next, stands_none, stands_word}
use Rattle.call_stages.specs.Kinds.{reads_on}
use Rattle.index_law.proofs.Loose.{loose_legal, loose_gives}
use Rattle.index_law.proofs.Stays.{stays_stored, stays_changed}
use Rattle.index_law.proofs.Splitting.{split_mine}
use Rattle.index_law.proofs.Joining.{again, merge_mine}

-- a step is one of those that its party may do
pub allow_law : StepIsAllowed
allow_law l g s a x t r within (looks (turns_back loose here busy)) = loads_word (here, omega arith)
allow_law l g s a x t r within (looks (wears loose here free worn)) = loads_word (here, omega arith)
allow_law l g s a x t r within (looks (roams has)) = loads_word has
allow_law l g s a x t r within (looks (roams_status here)) = loads_status here
allow_law l g s a x t r within (looks (is_worn has)) = loads_word has
allow_law l g s a x t r within (looks (sees loose here free unworn lock)) = loads_word (here, omega arith)
allow_law l g s a x t r within (looks (finds_live here is)) = loads_status here
allow_law l g s a x t r within (looks (watches has positive live next learnt)) = loads_word has
allow_law l g s a x t r within (looks (watches_next has low high ne live live' next leads learnt)) = loads_word has
allow_law l g s a x t r within (looks (turns_away loose here up)) = loads_status here
allow_law l g s a x t r within (looks (steps_back loose here up)) = loads_prev here
allow_law l g s a x t r within (looks (wanders loose here up)) = loads_word here
allow_law l g s a x t r within (looks (peeks here unready)) = loads_word (here, omega arith)
allow_law l g s a x t r within (looks (peeks_status here unready)) = loads_status here
allow_law l g s a x t r within (looks (eyes clean durable here nonzero free unworn lock)) = loads_word (here, omega arith)
allow_law l g s a x t r within (looks (eyes_free here is)) = loads_status here
allow_law l g s a x t r within (looks (passes here)) = loads_status here
allow_law l g s a x t r within (looks (loses here other)) = claims_node here
allow_law l g s a x t r within (looks (misses other)) = exchanges within
allow_law l g s a x t r within (looks (misses_read other small)) = exchanges_read within small
allow_law l g s a x t r within (looks (times clean below)) = loads_clock
allow_law l g s a x t r within (looks (learns has positive unready learnt)) = loads_word has
allow_law l g s a x t r within (looks (decides has positive clean durable about learnt decided)) = loads_word has
allow_law l g s a x t r within (looks (reads_on k)) = read_allowed k
allow_law l g s a x t r within (looks (glances has unready)) = loads_word has
allow_law l g s a x t r within (locks same named live between) = exchanges within
allow_law l g s a x t r within (locks_read same named live between unworn taken small) = exchanges_read within small
allow_law l g s a x t r within (stores {offset = offset} has content small clean soils learnt means) = stores_word refl has (content_positive offset content) small
allow_law l g s a x t r within (commits {offset = offset} has content small clean durable soiled old about learnt means) = stores_word refl has (content_positive offset content) small
allow_law l g s a x t r within (drains has small unready hand cleans) = drains_word refl has small
allow_law l g s a x t r within (claims unplaced here same) = claims_node here
allow_law l g s a x t r within (publishes next left fresh) = frees_fresh within next
allow_law l g s a x t r within (leaves next) = frees_left within next
allow_law l g s a x t r within (splits (fills has positive small leads soils told)) = stores_word (inr refl) has positive small
allow_law l g s a x t r within (splits (lights here leads)) = stores_status (inr refl) here (omega arith)
allow_law l g s a x t r within (splits (switches here small durable soiled cut told means)) = stores_word (inl refl) (here, omega arith) (omega arith) small
allow_law l g s a x t r within (splits (glances_left has learnt)) = loads_word has
allow_law l g s a x t r within (splits (glances_fresh has)) = loads_word has
allow_law l g s a x t r within (splits (drains_left has small hand cleans)) = drains_word (inl refl) has small
allow_law l g s a x t r within (splits (drains_fresh has small hand cleans)) = drains_word (inr refl) has small
allow_law l g s a x t r within (splits (trims here small durable soiled anchor told means)) = stores_word (inl refl) (here, omega arith) (omega arith) small
allow_law l g s a x t r within (merges (meets here same untimed leads)) = claims_node here
allow_law l g s a x t r within (merges (knows_own has positive learnt)) = loads_word has
allow_law l g s a x t r within (merges (knows_right has positive told)) = loads_word has
allow_law l g s a x t r within (merges (copies {offset = offset} has content small soils learnt means)) = stores_word (inl refl) has (content_positive offset content) small
allow_law l g s a x t r within (merges (takes_up has)) = loads_word has
allow_law l g s a x t r within (merges (puts_down has small hand cleans)) = drains_word (inl refl) has small
allow_law l g s a x t r within (merges (parts next)) = frees_met within.1 next
allow_law l g s a x t r within (merges (gathers small durable soiled told gathered)) = stores_word (inl refl) (within.0, omega arith) (omega arith) small
allow_law l g s a x t r within (merges (joins small durable soiled next told)) = stores_word (inl refl) (within.0, omega arith) (omega arith) small
allow_law l g s a x t r within (merges (glances_joined has learnt)) = loads_word has
allow_law l g s a x t r within (merges (drains_joined has small hand cleans)) = drains_word (inl refl) has small
allow_law l g s a x t r within (merges (retires durable)) = stores_status (inr refl) within.1 (omega arith)
allow_law l g s a x t r within (merges (yields next durable)) = frees_right within.1 next
allow_law l g s a x t r within (counts durable ready pending unplaced) = adds
allow_law l g s a x t r within (unlocks next pending durable unready answers) = frees within next

-- who is sure of its node names one of the layout's
pub sure_within : (l : Layout) (g : ℕ) (f : Facts) (caller index since : ℕ) (s : Stage) → Sure l g f caller index since s → IsWithin l s
sure_within l g f caller index since Idle knows = tt
sure_within l g f caller index since (Saw n v w k) knows = knows.word.here
sure_within l g f caller index since (Holds n w h) knows = knows.here
sure_within l g f caller index since (Eyes n w h m v u free) knows = tt
sure_within l g f caller index since (Splits left fresh phase) knows = knows.new.here
sure_within l g f caller index since (Wears n v) knows = knows.here
sure_within l g f caller index since (Reads n v sight told) knows = knows.here
sure_within l g f caller index since (Leaves left) knows = knows.grip.here
sure_within l g f caller index since (Meets n w h right) knows = (knows.0.here, knows.1.grip.here)
sure_within l g f caller index since (Joins h left right pace) knows = (knows.one.here, knows.other.here)

-- what is known of the words is known of those that are durable
known_words : (h : Held) (s : Spot) (seen : List (ℕ × ℕ)) → AllByRecursion (λ (w : ℕ × ℕ). s w.0 ≡ w.1) seen → AllByRecursion (λ (w : ℕ × ℕ). IsAmong h.dirty w.0 ⊎ (s w.0 ≡ w.1)) seen
known_words h s [] all = tt
known_words h s (w ∷ seen) all = (inr all.0, known_words h s seen all.1)

durably : (h : Held) (s : Spot) → Knows h.name h.known s → KnowsDurable h s
durably h s knows = known_words h s h.known.seen knows.seen

-- the word that was stored in the node's words
pub stored : (f : Facts) (n offset y : ℕ) → (with_word f n offset y).now n ≡ updated (f.now n) offset y
stored f n offset y = ap (λ (b : Bool). cond b (updated (f.now n) offset y) (f.now n)) (eq-eqb n n refl)

-- what holds anyway holds where something is there
where_some : {A : Type 0} {P : Type 0} → (o : Option A) → P → IfSome o (λ a. P)
where_some None holds = tt
where_some (Some a) holds = holds

-- a call whose clock is below the limit began below it
begun_below : (limit : Option ℕ) (since clock : ℕ) → since ≤ clock → IfSome limit (λ most. clock < most) → IfSome limit (λ most. since < most)
begun_below None since clock later below = tt
begun_below (Some most) since clock later below = omega arith

module _ {l : Layout} {g : ℕ} (f : Facts) (caller index since : ℕ) where
  -- what is known of a call with nothing pending
  pub clean_means : (n w : ℕ) (h : Held) → SureHolds l g f caller index since n w h → h.pending ≡ None → Means l.slots (range_of l f n) (f.now n) (map_now f)
  clean_means n w h knows clean = subst (λ (p : Option Change). Means l.slots (range_of l f n) (f.now n) (pended p (map_now f))) clean knows.means

  -- what the name had in the map that the call took effect on
  pub old_is : (n w : ℕ) (h : Held) (placed : Option ℕ) (old : Option ℕ) → SureHolds l g f caller index since n w h → h.placed ≡ placed → h.old ≡ Some old → at (map_before f placed) h.name ≡ old
  old_is n w h placed old knows placed_is old_is' =
      subst (λ (p : Option ℕ). at (map_before f p) h.name ≡ old) placed_is (subst (λ (o : Option (Option ℕ)). IfSome o (λ was. at (map_before f h.placed) h.name ≡ was)) old_is' knows.old)

  module _ (begun : since ≤ length f.history) (known : AreKnown l g f) (list : IsList l f) (live_part : AreLive l g f) (settled : AreSettled l g f) where
    look_mine : {s : Stage} {a : Action} {x : ℕ} {t : Stage} {r : Option (Once Placed)} → (k : Look l g s a x t r) → Gave k f → Sure l g f caller index since s → Sure l g f caller index since t
    look_mine (turns_back {s = s} loose here busy) e knows = tt
    look_mine (wears {s = s} loose here free worn) e knows = record { here = here; free = free; worn = worn; stands = sym e }
    look_mine (roams has) e knows = knows
    look_mine (roams_status here) e knows = knows
    look_mine (is_worn has) e knows = tt
    look_mine (sees {s = s} {n = n} loose here free unworn lock) e knows = record {
      word = record { here = here; known = subst (λ (v : ℕ). generation_of v ≤ g) (sym e) (known n here); free = free; unworn = unworn; lock = lock };
      seen = omega (arith, e);
      leads = λ no. absurd (let none : false ≡ true = no in cc);
      stands = λ is. stands_none f n;
    }
    look_mine (finds_live {n = n} {v = v} {w = w} {k = k} here is) e knows =
        saw_on l g f f n v w k (record k { live = true }) knows.seen (λ _. live_part.leads n here (sym e ∙ is))
        (λ same. stands_live f n k (live_part.listed n here (sym e ∙ is) (subst (λ (u : ℕ). IsFree u g) (sym same) knows.word.free)) (knows.stands same)) knows
    look_mine (watches {n = n} {v = v} {w = w} {x = x} {offset = offset} {k = k} {k' = k'} has positive live next learnt) e knows =
        saw_on l g f f n v w k k' knows.seen (λ is. knows.leads (sym live ∙ is)) (λ same. stands_word f n offset x k k' live next learnt e (knows.stands same)) knows
    look_mine (watches_next {n = n} {v = v} {w = w} {m = m} {x = x} {offset = offset} {k = k} {k' = k'} has low high ne live live' next leads learnt) e knows =
        saw_on l g f f n v w k k' knows.seen (λ _. knows.leads live) (λ same. stands_next f n m offset x k k' live leads learnt e (knows.stands same)) knows
    look_mine (turns_away {s = s} loose here up) e knows = tt
    look_mine (steps_back {s = s} loose here up) e knows = tt
    look_mine (wanders {s = s} loose here up) e knows = tt
    look_mine (peeks here unready) e knows = knows
    look_mine (peeks_status here unready) e knows = knows
    look_mine (eyes {m = m} clean durable here nonzero free unworn lock) e knows = (
      knows,
      record {
        clean = clean;
        durable = durable;
        nonzero = nonzero;
        word = record { here = here; known = subst (λ (v : ℕ). generation_of v ≤ g) (sym e) (known m here); free = free; unworn = unworn; lock = lock };
        seen = omega (arith, e);
        stands = λ is no. absurd (let none : false ≡ true = no in cc);
      },
    )
    look_mine (eyes_free {m = m} {v = v} {u = u} {h = h} here is) e knows = (knows.0, eyes_on l g f f h m v u false true knows.1.seen (λ same told. sym e ∙ is) knows.1)
    look_mine (passes here) e knows = knows.0
    look_mine (loses here other) e knows = knows.0
    look_mine (misses other) e knows = tt
    look_mine (misses_read other small) e knows = tt
    look_mine (times {n = n} {x = x} {limit = limit} clean below) e knows =
        let begun_so = begun_below limit since x (omega (arith, e)) below in
        let time : IsTime (range_of l f n) f.base f.history since limit x = record {
          later = omega (arith, e);
          within = omega (arith, e);
          below = below;
          same = λ place late there name inside. ap (λ (m : Map). at m name) (after-whole f.base f.history place (omega (arith, e)));
        } in
        assumption (knows, begun_so, time)
    look_mine (learns {n = n} {w = w} {h = h} {k = k} has positive unready learnt) e knows =
        again l g f caller index since n w h k h.dirty h.hand h.ready (learnt (f.now n) knows.means.tidy knows.knows (sym e)) knows.hand knows
    look_mine (decides {n = n} {w = w} {h = h} {old = old} {pending = pending} has positive clean durable about learnt decided) e knows =
        let means = clean_means n w h knows clean.pending in
        let found = decided (range_of l f n) (f.now n) (map_now f) knows.inside knows.knows (sym e) means in
        let known = learnt (f.now n) means.tidy knows.knows (sym e) in
        let shown : IfSome pending (λ c. (h.placed ≡ None) × IsSome (Some old)) = where_some pending (clean.placed, refl) in
        let was = subst (λ (p : Option ℕ). at (map_before f p) h.name ≡ old) (sym clean.placed) found.0 in
        assumption (knows, known, found.1, about, shown, was)
    look_mine (reads_on k) e knows = read_mine f caller index since begun known list live_part settled k e knows
    look_mine (glances {n = n} {w = w} {x = x} {offset = offset} {h = h} has unready) e knows =
        again l g f caller index since n w h h.known h.dirty (Some (offset, x)) h.ready knows.knows (sym e) knows

    -- what a party knows of a node that it has just locked
    locked : (n v w : ℕ) (k : Sight) (name : List ℕ) → k.live ≡ true → ((s t : Spot) → Sees k s t → IsBetween s t (key_of name)) → Stands f n k → f.version n ≡ v → n < l.nodes → IsFree v g
        → IsOwnLock g w → IsName name → SureHolds l g (with_version f n w) caller index since n w (just_held name)
    locked n v w k name live between stands_is same here free lock named =
        let listed = stands_is.listed live in
        let now = settled n listed (subst (λ (u : ℕ). IsFree u g) (sym same) free) in
        let stands = ap (λ (b : Bool). cond b w (f.version n)) (eq-eqb n n refl) in
        let inside = between_inside l f list n name listed (between (f.now n) (f.now (f.now n next_offset)) stands_is.sees) in
        assumption (now, stands, inside)

    pub mine : {s : Stage} {a : Action} {x : ℕ} {t : Stage} {r : Option (Once Placed)} → (k : Step l g s a x t r) → Gives k f → Sure l g f caller index since s
        → Sure l g (fact_after k f caller index) caller index since t
    mine (looks look) e knows = look_mine look e knows
    mine (locks {n = n} {v = v} {w = w} {k = k} {name = name} same named live between) e knows =
        locked n v w k name live between (knows.stands (sym e ∙ same)) (sym e ∙ same) knows.word.here knows.word.free (own_lock v w g knows.word.known knows.word.unworn knows.word.lock) named
    mine (locks_read {n = n} {v = v} {w = w} {k = k} {name = name} same named live between unworn taken small) e knows =
        locked n v w k name live between (knows.stands (sym e ∙ same)) (sym e ∙ same) knows.here knows.free (own_lock v w g knows.known unworn taken) named
    mine (stores {n = n} {y = y} {offset = offset} {h = h} {k = k} has content small clean soils learnt means) e knows =
        let known = subst (Knows h.name k) (sym (stored f n offset y)) (learnt (f.now n) knows.means.tidy knows.knows) in
        let meant = subst (λ (s : Spot). Means l.slots (range_of l f n) s (pended h.pending (map_now f))) (sym (stored f n offset y))
        (means (range_of l f n) (f.now n) (pended h.pending (map_now f)) (durably h (f.now n) knows.knows) knows.means) in
        let stays = subst (StaysIn l.slots (range_of l f n)) (sym (stored f n offset y))
        (stays_stored l.slots (range_of l f n) (f.now n) (updated (f.now n) offset y) knows.means.tidy (λ other m was. means other (f.now n) m (durably h (f.now n) knows.knows) was) knows.stays) in
        assumption (knows, known, meant, stays)
    mine (commits {n = n} {w = w} {y = y} {offset = offset} {h = h} {k = k} {old = old} {c = c} has content small clean durable soiled old_known about learnt means) e knows =
        let known = subst (Knows h.name k) (sym (stored f n offset y)) (learnt (f.now n) knows.means.tidy knows.knows) in
        let meant = subst (λ (s : Spot). Means l.slots (range_of l f n) s (changed (map_now f) c)) (sym (stored f n offset y))
        (means (range_of l f n) (f.now n) (map_now f) knows.inside knows.knows (old_is n w h None old knows clean.placed old_known) (clean_means n w h knows clean.pending)) in
        let had : at (map_now f) h.name ≡ old = old_is n w h None old knows clean.placed old_known in
        let stays = subst (StaysIn l.slots (range_of l f n)) (sym (stored f n offset y))
        (stays_changed l.slots (range_of l f n) (f.now n) (updated (f.now n) offset y) (map_now f) c (subst IsName (sym about) knows.named)
        (subst (λ (name : List ℕ). range_of l f n name ≡ true) (sym about) knows.inside) (clean_means n w h knows clean.pending)
        (λ m' alike was. means (λ name. true) (f.now n) m' refl knows.knows (ap (at m') (sym about) ∙ alike ∙ ap (at (map_now f)) about ∙ had) was) knows.stays) in
        assumption (knows, known, meant, stays, about, clean.placed, ap is_some old_known)
    mine (drains {n = n} {w = w} {h = h} {dirty = dirty} {ready = ready} has small unready hand cleans) e knows = again l g f caller index since n w h h.known dirty None ready knows.knows tt knows
    mine (counts {n = n} {w = w} {x = x} {h = h} {c = c} durable ready pending unplaced) e knows =
        let write : Write = record { caller = caller; index = index; change = c } in
        let same : after f.base (f.history ++ write ∷ []) x ≡ map_now f = after-longer f.base f.history (write ∷ []) x (omega (arith, e)) ∙ after-whole f.base f.history x e in
        let meant = subst (Means l.slots (range_of l f n) (f.now n)) (sym (after_all-push f.base f.history write))
        (subst (λ (p : Option Change). Means l.slots (range_of l f n) (f.now n) (pended p (map_now f))) pending knows.means) in
        let was = old_then h.old (subst (λ (p : Option ℕ). IfSome h.old (λ old. at (map_before f p) h.name ≡ old)) unplaced knows.old) (ap (λ (m : Map). at m h.name) same) in
        let placed : IsPlaced (f.history ++ write ∷ []) caller index since h.name x = record {
          later = omega (arith, e);
          within = omega (arith, e, length-append f.history (write ∷ []));
          write = record {
            change = c;
            about = subst (λ (p : Option Change). IfSome p (λ d. name_of d ≡ h.name)) pending knows.about;
            stands = ap (slice_get (f.history ++ write ∷ [])) e ∙ slice_get-last f.history write;
          };
        } in
        assumption (knows, meant, was, placed)
      where
        old_then : {m m' : Option ℕ} → (o : Option (Option ℕ)) → IfSome o (λ old. m ≡ old) → m' ≡ m → IfSome o (λ old. m' ≡ old)
        old_then None was same = tt
        old_then (Some old) was same = same ∙ was
    mine (unlocks next pending durable unready answers) e knows = tt
    mine (claims {n = n} {w = w} {m = m} {v = v} {u = u} {h = h} unplaced here same) e knows =
        let one : m ≢ n = (λ d. unfree w g knows.0.lock (subst (λ (z : ℕ). IsFree z g) (sym (sym e ∙ same) ∙ ap f.version d ∙ knows.0.stands) knows.1.word.free)) in
        let status = knows.1.stands (sym e ∙ same) refl in
        record {
          full = record { here = knows.0.here; stands = ap (λ (b : Bool). cond b u (f.version n)) (ne_eqb n m (λ d. one (sym d))) ∙ knows.0.stands; lock = knows.0.lock; seen = knows.0.knows.seen; hand = tt };
          new = record { here = here; stands = ap (λ (b : Bool). cond b u (f.version m)) (eq-eqb m m refl); lock = own_lock v u g knows.1.word.known knows.1.word.unworn knows.1.word.lock; seen = tt; hand = tt };
          apart = λ d. one (sym d);
          nonzero = knows.1.nonzero;
          at = record {
            listed = inside_listed l f list n h.name knows.0.inside;
            unlisted = λ is. let lit = live_part.live m is in absurd (let no : 0 ≡ 1 = sym status ∙ lit in omega arith);
            settled = record { means = clean_means n w h knows.0 knows.1.clean.pending; stays = knows.0.stays };
            asked = record { named = knows.0.named; inside = knows.0.inside; had = subst (λ (p : Option ℕ). IfSome h.old (λ old. at (map_before f p) h.name ≡ old)) unplaced.unplaced knows.0.old; lacked = unplaced.lacked };
            bright = λ no. absurd (let none : false ≡ true = no in cc);
            dark = λ _. status;
          };
        }
    mine (publishes {freed = freed} {left = left} {fresh = fresh} next left_durable durable) e knows = record {
      grip = grip_kept l g f (with_version f fresh.node freed) (later-version l f fresh.node freed) left (steady-version l f fresh.node freed left.node knows.apart) knows.full;
      listed = knows.at.listed;
      settled = record { means = knows.at.settled_left.means; stays = knows.at.settled_left.stays };
    }
    mine (leaves next) e knows = tt
    mine (splits k) e knows = split_mine l g f caller index since list k e knows
    mine (merges k) e knows = merge_mine l g f caller index since known list live_part settled k e knows

  -- the answer of a call that gives its node back
  answered : (n w freed : ℕ) (h : Held) (r : Once Placed) → h.pending ≡ None → Answers l h r → SureHolds l g f caller index since n w h → IsLegalHeld l (with_version f n freed) caller index since n h r
  answered n w freed h r clean (writes {old = old} {place = place} placed old_known) knows =
      let told = subst (λ (p : Option ℕ). IfSome p (IsPlaced f.history caller index since h.name)) placed knows.placed in
      record {
        later = told.later;
        within = let within = told.within in omega arith;
        below = knows.below;
        old = sym (old_is n w h (Some place) old knows placed old_known);
        write = subst (λ (p : Option ℕ). IfSome p (λ q. (place ≡ q) × HasWriteAt f.history caller index h.name q)) (sym placed) (refl, told.write);
      }
  answered n w freed h r clean (reads {old = old} {clock = clock} unplaced time old_known) knows =
      let told = subst (λ (c : Option ℕ). IfSome c (IsTime (range_of l f n) f.base f.history since h.limit)) time knows.time in
      record {
        later = told.later;
        within = told.within;
        below = knows.below;
        old = sym (told.same clock (omega arith) told.within h.name knows.inside ∙ old_is n w h None old knows unplaced old_known);
        write = subst (λ (p : Option ℕ). IfSome p (λ q. (clock ≡ q) × HasWriteAt f.history caller index h.name q)) (sym unplaced) tt;
      }
  answered n w freed h r clean (is_spent unplaced time) knows =
      let told = subst (λ (c : Option ℕ). IfSome c (IsTime (range_of l f n) f.base f.history since h.limit)) time knows.time in
      record { later = told.later; within = told.within }
  answered n w freed h r clean (has_no_room {clock = clock} unplaced time old_known full) knows =
      let told = subst (λ (c : Option ℕ). IfSome c (IsTime (range_of l f n) f.base f.history since h.limit)) time knows.time in
      let means = clean_means n w h knows clean in
      let lacks = old_is n w h None None knows unplaced old_known in
      let all_live = full (f.now n) means.tidy knows.knows in
      let lacked = told.same clock (omega arith) told.within h.name knows.inside ∙ lacks in
      let many = full_has_in l.slots (range_of l f n) (f.now n) (after f.base f.history clock)
      (means_alike l.slots (range_of l f n) (f.now n) (map_now f) (after f.base f.history clock) (told.same clock (omega arith) told.within) means) knows.stays all_live in
      (unplaced, inl (refl, search (knows.inside, lacks, all_live, means, told, lacked, many)))
  answered n w freed h r clean (refuses unplaced is) knows = (unplaced, inr is)

  -- an answer is legal
  pub legal : {s : Stage} {a : Action} {x : ℕ} {t : Stage} {r : Option (Once Placed)} → (k : Step l g s a x t r) → Gives k f → Sure l g f caller index since s
      → IsLegal l g (fact_after k f caller index) caller index since s r
  legal (looks (turns_back {s = s} loose here busy)) e knows = loose_legal l g f caller index since s _ loose (sym e, busy)
  legal (looks (wears {s = s} loose here free worn)) e knows = tt
  legal (looks (roams has)) e knows = tt
  legal (looks (roams_status here)) e knows = tt
  legal (looks (is_worn has)) e knows = (knows.stands, knows.free, knows.worn)
  legal (looks (sees {s = s} loose here free unworn lock)) e knows = tt
  legal (looks (finds_live here is)) e knows = tt
  legal (looks (watches has positive live next learnt)) e knows = tt
  legal (looks (watches_next has low high ne live live' next leads learnt)) e knows = tt
  legal (looks (turns_away {s = s} {r = r} loose here up)) e knows = loose_gives l g f caller index since s r loose up
  legal (looks (steps_back {s = s} {r = r} loose here up)) e knows = loose_gives l g f caller index since s r loose up
  legal (looks (wanders {s = s} {r = r} loose here up)) e knows = loose_gives l g f caller index since s r loose up
  legal (looks (peeks here unready)) e knows = tt
  legal (looks (peeks_status here unready)) e knows = tt
  legal (looks (eyes clean durable here nonzero free unworn lock)) e knows = tt
  legal (looks (eyes_free here is)) e knows = tt
  legal (looks (passes here)) e knows = tt
  legal (looks (loses here other)) e knows = tt
  legal (looks (misses other)) e knows = (sym e, other)
  legal (looks (misses_read other small)) e knows = (sym e, other)
  legal (looks (times clean below)) e knows = tt
  legal (looks (learns has positive unready learnt)) e knows = tt
  legal (looks (decides has positive clean durable about learnt decided)) e knows = tt
  legal (looks (reads_on k)) e knows = read_legal f caller index since k e knows
  legal (looks (glances has unready)) e knows = tt
  legal (locks same named live between) e knows = tt
  legal (locks_read same named live between unworn taken small) e knows = tt
  legal (stores has content small clean soils learnt means) e knows = tt
  legal (commits has content small clean durable soiled old about learnt means) e knows = tt
  legal (drains has small unready hand cleans) e knows = tt
  legal (counts durable ready pending unplaced) e knows = tt
  legal (unlocks {n = n} {w = w} {f = freed} {h = h} {r = r} next pending durable unready answers) e knows = answered n w freed h r pending answers knows
  legal (splits (fills has positive small leads soils told)) e knows = tt
  legal (splits (lights here leads)) e knows = tt
  legal (splits (switches here small durable soiled cut told means)) e knows = tt
  legal (splits (glances_left has learnt)) e knows = tt
  legal (splits (glances_fresh has)) e knows = tt
  legal (splits (drains_left has small hand cleans)) e knows = tt
  legal (splits (drains_fresh has small hand cleans)) e knows = tt
  legal (splits (trims here small durable soiled anchor told means)) e knows = tt
  legal (claims unplaced here same) e knows = tt
  legal (merges (meets here same untimed leads)) e knows = tt
  legal (merges (knows_own has positive learnt)) e knows = tt
  legal (merges (knows_right has positive told)) e knows = tt
  legal (merges (copies has content small soils learnt means)) e knows = tt
  legal (merges (takes_up has)) e knows = tt
  legal (merges (puts_down has small hand cleans)) e knows = tt
  legal (merges (parts next)) e knows = tt
  legal (merges (gathers small durable soiled told gathered)) e knows = tt
  legal (merges (joins small durable soiled next told)) e knows = tt
  legal (merges (glances_joined has learnt)) e knows = tt
  legal (merges (drains_joined has small hand cleans)) e knows = tt
  legal (merges (retires durable)) e knows = tt
  legal (merges (yields next durable)) e knows = tt
  legal (publishes next left fresh) e knows = tt
  legal (leaves next) e knows = refl
