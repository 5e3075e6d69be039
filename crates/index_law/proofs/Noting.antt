-- Log lines stand beside the nodes: what a step on the one does not touch of the other, and that lines stay in order.
use Rattle.std.proofs.Common.{◌≡◌, ◌≢◌, ℕ, ◌^◌, ◌<◌, ◌⊎◌, inl, inr, ⊎_elim, Bool, true, false, cond, ◌&&◌, List, [], slice_set, refl, sym, ap, ◌∙◌, subst, arith}
use Rattle.std.specs.Prelude.{nat_lt, Option, Some, None, IfSome}
use Rattle.std.specs.FinMap.{empty}
use Rattle.std.proofs.lemmas.Bool.{cases_eq, lt-ltb, ltb-true}
use Rattle.std.proofs.lemmas.List.{set-get_or}
use Rattle.pm_words.specs.declared.layout.Layout.{Layout}
use Rattle.pm_words.specs.declared.action.Action.TheVariants.{Load, Store, Drain}
use Rattle.pm_words.specs.Locations.{Word, Header, Node, Line, Location, Volatile, Cached, Durable, Clock, HasWord, HasLocation, at, address_of}
use Rattle.pm_words.specs.Rows.{IsRow, acted, evicted}
use Rattle.pm_words.proofs.Apart.{at-set_same, at-set_other, addresses_within}
use Rattle.pm_words.proofs.Kept.{action_address-drain, acted_row, outside_header, names_cached, keeps_header}
use Rattle.data_node.specs.Spots.{Spot, updated}
use Rattle.data_node.proofs.SpotLemmas.{updated-same, updated-other}
use Rattle.data_node.proofs.LineLemmas.{entry_alike}
use Rattle.pm_words.specs.Offsets.{version_offset, state_offset, status_offset, generation_offset}
use Rattle.pm_words.specs.Codes.{ready_state, empty_state, open_state}
use Rattle.call_stages.specs.Stages.{IsAmong, Held, just_held, Tells}
use Rattle.call_stages.specs.Kinds.{Cleans, word_address, status_address, prev_address, clock_address}
use Rattle.call_stages.specs.Lines.{HeldLine, line_address, IsEntry, IsFitLine, Marks, fills, opens, readies, TellsDurably, looks_up, notes, keeps_safe}
use Rattle.index_law.specs.Facts.{Facts}
use Rattle.index_law.specs.Worlds.{World, facts}
use Rattle.index_law.specs.Lawful.{IsList, AreLive, AreKnown, AreSure, AreSettled, AreFreeOrHeld, AreBacked, Lawful}
use Rattle.index_law.specs.Laws.{loads_clock, loads_word, loads_status, loads_prev, exchanges, exchanges_read, stores_word, stores_status, drains_word, adds, claims_node, frees_fresh, frees_left, frees_met, frees_right, frees}
use Rattle.index_law.specs.Twins.{IsMix, AreDurable}
use Rattle.index_law.specs.Lines.{line_in, safe_line, AreFit, IsGiven, WaitsOrIsEmpty, IsWaiting, SureLine, NoteLaw, NotesKeep, NodesLeaveLines, EvictFits}
use Rattle.index_law.proofs.Backing.{known_mix, before_store, before_mix, after_mix, without_mix}
use Rattle.index_law.proofs.Rows.{facts-elsewhere, if-alike}
use Rattle.index_law.proofs.Twins.{blank_word, aside_blank, IsCloser, IsNearer, IsAside, nearer, evict_closer, evict_cached, store_closer, closer_stage, closer_durable, closer_versions, closer_front}
use Rattle.index_law.proofs.Places.{caller_at, number_at, offset_at}

-- the words that belong to a line
abbrev in_line : Layout → ℕ → ℕ → ℕ → Bool
in_line l c j offset = nat_lt c l.callers && (nat_lt j 8 && nat_lt offset 8)

both : (a b : Bool) → (a && b) ≡ true → (a ≡ true) × (b ≡ true)
both true b e = (refl, e)
both false b e = absurd (let no_way : false ≡ true = e in cc)

has_line : (l : Layout) (c j offset : ℕ) → in_line l c j offset ≡ true → HasWord l (Line c j offset)
has_line l c j offset e =
    let outer = both (nat_lt c l.callers) (nat_lt j 8 && nat_lt offset 8) e in
    let inner = both (nat_lt j 8) (nat_lt offset 8) outer.1 in
    (ltb-true c l.callers outer.0, ltb-true j 8 inner.0, ltb-true offset 8 inner.1)

-- rows in which a line's words are the same
kind-alike : (l : Layout) (words words' : List ℕ) (c j offset : ℕ) (kind : Word → Location) → (HasWord l (Line c j offset) → at l words' (kind (Line c j offset)) ≡ at l words (kind (Line c j offset)))
    → cond (in_line l c j offset) (at l words' (kind (Line c j offset))) 0 ≡ cond (in_line l c j offset) (at l words (kind (Line c j offset))) 0
kind-alike l words words' c j offset kind same =
    if-alike (in_line l c j offset) (at l words' (kind (Line c j offset))) (at l words (kind (Line c j offset))) (λ is. same (has_line l c j offset is))

pub line-alike : (l : Layout) (words words' : List ℕ) (c j offset : ℕ) → (HasWord l (Line c j offset) → at l words' (Cached (Line c j offset)) ≡ at l words (Cached (Line c j offset)))
    → line_in l words' c j offset ≡ line_in l words c j offset
unfolding line_in
line-alike l words words' c j offset same = kind-alike l words words' c j offset Cached same

pub safe-alike : (l : Layout) (words words' : List ℕ) (c j offset : ℕ) → (HasWord l (Line c j offset) → at l words' (Durable (Line c j offset)) ≡ at l words (Durable (Line c j offset)))
    → safe_line l words' c j offset ≡ safe_line l words c j offset
unfolding safe_line
safe-alike l words words' c j offset same = kind-alike l words words' c j offset Durable same

-- a store at an address that is no line's leaves lines
abbrev pub IsNoLine : Location → Type 0
IsNoLine p = (c j offset : ℕ) → (p ≢ Cached (Line c j offset)) × (p ≢ Durable (Line c j offset))

abbrev pub LinesStay : Layout → List ℕ → List ℕ → ℕ → ℕ → ℕ → Type 0
LinesStay l words words' c j offset = (line_in l words' c j offset ≡ line_in l words c j offset) × (safe_line l words' c j offset ≡ safe_line l words c j offset)

pub store_leaves : (l : Layout) (words : List ℕ) (p : Location) (y : ℕ) → HasLocation l p → IsNoLine p → (c j offset : ℕ) → LinesStay l words (slice_set words (address_of l p) y) c j offset
store_leaves l words p y has none c j offset = (
  line-alike l words (slice_set words (address_of l p) y) c j offset (λ there. at-set_other l words p (Cached (Line c j offset)) y has there (λ e. (none c j offset).0 (sym e))),
  safe-alike l words (slice_set words (address_of l p) y) c j offset (λ there. at-set_other l words p (Durable (Line c j offset)) y has there (λ e. (none c j offset).1 (sym e))),
)

load_leaves : (l : Layout) (words words' : List ℕ) → words' ≡ words → (c j offset : ℕ) → LinesStay l words words' c j offset
load_leaves l words words' same c j offset = (ap (λ v. line_in l v c j offset) same, ap (λ v. safe_line l v c j offset) same)

no_line_node : (n offset : ℕ) → IsNoLine (Cached (Node n offset))
no_line_node n offset c j other = (λ e. cc, λ e. cc)

pub nodes_leave_lines : NodesLeaveLines
nodes_leave_lines l words s a c j offset loads_clock = load_leaves l words (acted l words a) (set-get_or words (clock_address l) 0) c j offset
nodes_leave_lines l words s a c j offset (loads_word {n = n} {offset = o} has) = load_leaves l words (acted l words a) (set-get_or words (word_address l n o) 0) c j offset
nodes_leave_lines l words s a c j offset (loads_status {n = n} here) = load_leaves l words (acted l words a) (set-get_or words (status_address l n) 0) c j offset
nodes_leave_lines l words s a c j offset (loads_prev {n = n} here) = load_leaves l words (acted l words a) (set-get_or words (prev_address l n) 0) c j offset
nodes_leave_lines l words s a c j offset (exchanges {n = n} here) = store_leaves l words (Cached (Node n version_offset)) _ (here, omega arith) (no_line_node n state_offset) c j offset
nodes_leave_lines l words s a c j offset (exchanges_read {n = n} here small) = store_leaves l words (Cached (Node n version_offset)) _ (here, omega arith) (no_line_node n state_offset) c j offset
nodes_leave_lines l words s a c j offset (stores_word {n = n} {y = y} {offset = o} holds has positive small) = store_leaves l words (Cached (Node n o)) y has (no_line_node n o) c j offset
nodes_leave_lines l words s a c j offset (stores_status {n = n} {y = y} holds here small) =
    store_leaves l words (Volatile n status_offset) y (here, omega arith) (λ d k q. (λ e. cc, λ e. cc)) c j offset
nodes_leave_lines l words s a c j offset (drains_word {n = n} {y = y} {offset = o} holds has small) =
    subst (λ (address : ℕ). LinesStay l words (slice_set words address y) c j offset) (sym (action_address-drain l (Node n o) y))
    (store_leaves l words (Durable (Node n o)) y has (λ d k q. (λ e. cc, λ e. cc)) c j offset)
nodes_leave_lines l words s a c j offset adds = store_leaves l words Clock _ tt (λ d k q. (λ e. cc, λ e. cc)) c j offset
nodes_leave_lines l words s a c j offset (claims_node {m = m} here) = store_leaves l words (Cached (Node m version_offset)) _ (here, omega arith) (no_line_node m state_offset) c j offset
nodes_leave_lines l words s a c j offset (frees_fresh {fresh = fresh} here next) = store_leaves l words (Cached (Node fresh.node version_offset)) _ (here, omega arith) (no_line_node fresh.node state_offset) c j offset
nodes_leave_lines l words s a c j offset (frees_left {left = left} here next) = store_leaves l words (Cached (Node left.node version_offset)) _ (here, omega arith) (no_line_node left.node state_offset) c j offset
nodes_leave_lines l words s a c j offset (frees_met {right = right} here next) = store_leaves l words (Cached (Node right.node version_offset)) _ (here, omega arith) (no_line_node right.node state_offset) c j offset
nodes_leave_lines l words s a c j offset (frees_right {right = right} here next) = store_leaves l words (Cached (Node right.node version_offset)) _ (here, omega arith) (no_line_node right.node state_offset) c j offset
nodes_leave_lines l words s a c j offset (frees {n = n} here next) = store_leaves l words (Cached (Node n version_offset)) _ (here, omega arith) (no_line_node n state_offset) c j offset

-- lines in order stay so in a closer row with the same cached words
fits_closer : (l : Layout) (words words' : List ℕ) → ((c j offset : ℕ) → line_in l words' c j offset ≡ line_in l words c j offset)
    → ((c j offset : ℕ) → (safe_line l words' c j offset ≡ safe_line l words c j offset) ⊎ (safe_line l words' c j offset ≡ line_in l words c j offset)) → AreFit l words → AreFit l words'
fits_closer l words words' same closer fit c j mix is = fit c j mix (λ offset. ⊎_elim
    (λ durably. ⊎_elim (λ stays. inl (durably ∙ stays)) (λ cached. inr (durably ∙ cached)) (closer c j offset))
    (λ cached. inr (cached ∙ same c j offset))
    (is offset))

-- the durable words of a line in a closer row
closer_line : (l : Layout) (words words' : List ℕ) → IsCloser l words words' → (c j offset : ℕ)
    → (safe_line l words' c j offset ≡ safe_line l words c j offset) ⊎ (safe_line l words' c j offset ≡ line_in l words c j offset)
unfolding line_in safe_line
closer_line l words words' closer c j offset =
    elim (in_line l c j offset) as (λ b. in_line l c j offset ≡ b → (cond b (at l words' (Durable (Line c j offset))) 0 ≡ cond b (at l words (Durable (Line c j offset))) 0)
    ⊎ (cond b (at l words' (Durable (Line c j offset))) 0 ≡ cond b (at l words (Cached (Line c j offset))) 0)) [
      | true ↦ λ is. closer (Line c j offset) (has_line l c j offset is)
      | false ↦ λ is. inl refl
    ] refl

pub evict_fits : EvictFits
evict_fits l words word row within fit =
    fits_closer l words (evicted l words word)
    (λ c j offset. line-alike l words (evicted l words word) c j offset (λ has. evict_cached l words word (Line c j offset) has))
    (closer_line l words (evicted l words word) (evict_closer l words word row.whole within)) fit

-- a lawful index stays so where only words aside change, and durable twins of others to no other than the cached
pub beside_law : (w : World) (words : List ℕ) → Lawful w → IsRow w.layout words → facts (record w { words = words }) ≡ facts w → IsNearer w.layout w.words words
    → at w.layout words Clock ≡ at w.layout w.words Clock
    → ((v : Word) → HasWord w.layout v → (IsAside v → ⊥) → at w.layout words (Cached v) ≡ at w.layout w.words (Cached v)) → Lawful (record w { words = words })
beside_law w words lawful row same closer clock cached =
    let l = w.layout in
    let g = w.generation in
    record {
      named = lawful.named;
      list = subst (IsList l) (sym same) lawful.list;
      live = subst (AreLive l g) (sym same) lawful.live;
      run = lawful.run;
      row = row;
      clock = clock ∙ lawful.clock;
      versions = subst (AreKnown l g) (sym same) lawful.versions;
      sure = subst (λ (f : Facts). AreSure l g f w.parties) (sym same) lawful.sure;
      begun = lawful.begun;
      alone = lawful.alone;
      settled = subst (AreSettled l g) (sym same) lawful.settled;
      held = subst (λ (f : Facts). AreFreeOrHeld l g f w.parties) (sym same) lawful.held;
      backed = subst (λ (f : Facts). AreBacked l f words w.parties) (sym same) (λ i p there. closer_stage l w.words words w.base w.history closer p.stage (lawful.backed i p there));
      durable = subst (λ (f : Facts). AreDurable l g f words) (sym same) (closer_durable l w.words words w.base w.history closer g lawful.durable);
      durable_versions = closer_versions l w.words words w.base w.history closer g lawful.versions lawful.durable_versions;
      front = record {
        generation = cached (Header generation_offset) (omega arith) (λ aside. aside) ∙ lawful.front.generation;
        blank = λ v blank. cached v (blank_word l v blank).0 (aside_blank l v blank) ∙ lawful.front.blank v blank;
      };
      durable_front = closer_front l g w.words words closer lawful.front lawful.durable_front;
    }

-- a word of a line at its address
pub line-here : (l : Layout) (words : List ℕ) (c j offset : ℕ) → HasWord l (Line c j offset) → line_in l words c j offset ≡ at l words (Cached (Line c j offset))
unfolding line_in
line-here l words c j offset has = rw (lt-ltb c l.callers has.0) (rw (lt-ltb j 8 has.1) (rw (lt-ltb offset 8 has.2) refl))

pub safe-here : (l : Layout) (words : List ℕ) (c j offset : ℕ) → HasWord l (Line c j offset) → safe_line l words c j offset ≡ at l words (Durable (Line c j offset))
unfolding safe_line
safe-here l words c j offset has = rw (lt-ltb c l.callers has.0) (rw (lt-ltb j 8 has.1) (rw (lt-ltb offset 8 has.2) refl))

abbrev word_in : Location → Word
word_in (Cached v) = v
word_in _ = Header 0

abbrev durable_word : Location → Word
durable_word (Durable v) = v
durable_word _ = Header 0

pub same_spots : (s t : Spot) → ((offset : ℕ) → s offset ≡ t offset) → s ≡ t
same_spots s t same = λ k offset. same offset k

module _ (w : World) (lawful : Lawful w) (fit : AreFit w.layout w.words) (e : HeldLine) (sure : SureLine w.layout w.words e) (offset : ℕ) (small : offset < 8) where
  has : HasWord w.layout (Line e.caller e.number offset)
  has = (sure.here.0, sure.here.1, small)

  abbrev now : Spot
  now = line_in w.layout w.words e.caller e.number

  abbrev safe : Spot
  safe = safe_line w.layout w.words e.caller e.number

  module _ (y : ℕ) (fits : y < 2 ^ 64) where
    abbrev stored : List ℕ
    stored = slice_set w.words (line_address w.layout e.caller e.number offset) y

    -- a store into another line
    other_line : (d k o : ℕ) → (d ≢ e.caller) ⊎ ((k ≢ e.number) ⊎ (o ≢ offset)) → (line_in w.layout stored d k o ≡ line_in w.layout w.words d k o)
    other_line d k o other = line-alike w.layout w.words stored d k o (λ there.
        at-set_other w.layout w.words (Cached (Line e.caller e.number offset)) (Cached (Line d k o)) y has there
        (λ same. ⊎_elim (λ n. n (ap caller_at same)) (λ rest. ⊎_elim (λ n. n (ap number_at same)) (λ n. n (ap offset_at same)) rest) other))

    own_line : (o : ℕ) → line_in w.layout stored e.caller e.number o ≡ updated now offset y o
    own_line o = ⊎_elim
        (λ (same : o ≡ offset). subst (λ k. line_in w.layout stored e.caller e.number k ≡ updated now offset y k) (sym same)
        (line-here w.layout stored e.caller e.number offset has ∙ at-set_same w.layout w.words (Cached (Line e.caller e.number offset)) y lawful.row.whole has ∙ sym (updated-same now offset y)))
        (λ (other : o ≢ offset). other_line e.caller e.number o (inr (inr other)) ∙ sym (updated-other now offset y o other))
        (cases_eq o offset)

    safe_stays : (d k o : ℕ) → safe_line w.layout stored d k o ≡ safe_line w.layout w.words d k o
    safe_stays d k o = safe-alike w.layout w.words stored d k o (λ there. at-set_other w.layout w.words (Cached (Line e.caller e.number offset)) (Durable (Line d k o)) y has there (λ same. cc))

    stored_lawful : Lawful (record w { words = stored })
    stored_lawful = beside_law w stored lawful
        (acted_row w.layout w.words (Store (line_address w.layout e.caller e.number offset) y) lawful.row
        ((addresses_within w.layout (Cached (Line e.caller e.number offset)) has, outside_header w.layout (Cached (Line e.caller e.number offset)) has (λ k lt. (λ d. cc, λ d. cc))), fits))
        (facts-elsewhere w.layout w.words w.base w.history (Cached (Line e.caller e.number offset)) y has (λ n o d. cc, λ n d. cc))
        (nearer w.layout w.words stored (store_closer w.layout w.words (Cached (Line e.caller e.number offset)) y has (λ v d. cc)))
        (at-set_other w.layout w.words (Cached (Line e.caller e.number offset)) Clock y has tt (λ d. cc))
        (λ v there none. at-set_other w.layout w.words (Cached (Line e.caller e.number offset)) (Cached v) y has there (λ d. none (subst IsAside (sym (ap word_in d)) tt)))

    -- what the party knows, each mix of the line's rows is in order after the store too
    abbrev KeepsMixes : Type 0
    KeepsMixes = (before : Spot) → IsMix safe now before → IsFitLine w.layout before → IsFitLine w.layout (updated before offset y)

    unready_keeps : e.ready ≡ false → ((s : Spot) → TellsDurably e.dirty e.seen s → IsFitLine w.layout s → IsFitLine w.layout (updated s offset y)) → KeepsMixes
    unready_keeps unready keeps before is fit_before =
        let held : Held = record (just_held []) { dirty = e.dirty } in
        keeps before (known_mix 0 (λ name. true) empty safe now held offset y (λ o spared. sure.clean o spared (λ given. absurd (let no : true ≡ false = sym given.ready ∙ unready in cc))) before is e.seen sure.seen) fit_before

    -- each mix of the line's rows stays in order
    stored_mix : KeepsMixes → (mix : Spot) → IsMix safe (updated now offset y) mix → IsFitLine w.layout mix
    stored_mix keeps mix is =
        let held : Held = record (just_held []) { dirty = e.dirty } in
        ⊎_elim
        (λ durably. fit e.caller e.number mix (without_mix 0 (λ name. true) empty safe now held offset y mix is durably))
        (λ cached.
        let before = before_store 0 (λ name. true) empty safe now held offset y mix in
        let is' = before_mix 0 (λ name. true) empty safe now held offset y mix is in
        subst (IsFitLine w.layout) (after_mix 0 (λ name. true) empty safe now held offset y mix cached)
        (keeps before is' (fit e.caller e.number before is')))
        (is offset)

    stored_fit : KeepsMixes → AreFit w.layout stored
    stored_fit keeps d k mix is = ⊎_elim
        (λ (one : d ≡ e.caller). ⊎_elim
        (λ (two : k ≡ e.number). stored_mix keeps mix (λ o. ⊎_elim
        (λ durably. inl (durably ∙ (λ i. safe_line w.layout stored (one i) (two i) o) ∙ safe_stays e.caller e.number o))
        (λ cached. inr (cached ∙ (λ i. line_in w.layout stored (one i) (two i) o) ∙ own_line o))
        (is o)))
        (λ (other : k ≢ e.number). fit d k mix (λ o. ⊎_elim (λ durably. inl (durably ∙ safe_stays d k o)) (λ cached. inr (cached ∙ other_line d k o (inr (inl other)))) (is o)))
        (cases_eq k e.number))
        (λ (other : d ≢ e.caller). fit d k mix (λ o. ⊎_elim (λ durably. inl (durably ∙ safe_stays d k o)) (λ cached. inr (cached ∙ other_line d k o (inl other))) (is o)))
        (cases_eq d e.caller)

-- the word in hand is the line's, or it is the state of a line that waits
pub hand_word : (l : Layout) (words : List ℕ) (e : HeldLine) (offset y : ℕ) → HasWord l (Line e.caller e.number offset) → e.hand ≡ Some (offset, y) → SureLine l words e
    → (y ≡ at l words (Cached (Line e.caller e.number offset))) ⊎ (IsGiven e offset × (y ≡ ready_state))
hand_word l words e offset y has is sure = ⊎_elim
    (λ same. inl (sym same ∙ line-here l words e.caller e.number offset has))
    (λ given. inr given)
    (subst (λ (h : Option (ℕ × ℕ)). IfSome h (λ k. (line_in l words e.caller e.number k.0 ≡ k.1) ⊎ (IsGiven e k.0 × (k.1 ≡ ready_state)))) is sure.hand)

-- a mix of the rows of a line that waits is in order, whichever state it has
waiting_fit : (l : Layout) (seen : List (ℕ × ℕ)) (now safe mix : Spot) → IsWaiting l seen now safe → WaitsOrIsEmpty (mix state_offset) → ((offset : ℕ) → offset ≢ state_offset → mix offset ≡ now offset) → IsFitLine l mix
waiting_fit l seen now safe mix waits (inl none) same = inl none
waiting_fit l seen now safe mix waits (inr ready) same =
    inr (entry_alike l.nodes (updated now state_offset ready_state) mix (omega arith) (λ offset other within. same offset other ∙ sym (updated-other now state_offset ready_state offset other)) waits.entry)

-- a store into a line is for one that isn't READY
pub marks_unready : (e : HeldLine) (offset y : ℕ) (seen : List (ℕ × ℕ)) (ready : Bool) → Marks e offset y seen ready → e.ready ≡ false
marks_unready e offset y seen ready (fills other unready is_empty) = unready
marks_unready e offset y seen ready (opens unready is_empty) = unready
marks_unready e offset y seen ready (readies unready durable is_open blind) = unready

-- one that wasn't made READY isn't
marked_unready : (e : HeldLine) (offset y : ℕ) (seen : List (ℕ × ℕ)) (ready : Bool) → Marks e offset y seen ready → (now : Spot) → Tells e.seen now → ready ≡ false → updated now offset y 0 ≢ 2
marked_unready e offset y seen ready (fills other unready is_empty) now told is two =
    let same = updated-other now offset y state_offset (λ zero. other (sym zero)) in let none : now state_offset ≡ empty_state = is_empty now told in omega arith
marked_unready e offset y seen ready (opens unready is_empty) now told is two = let one = updated-same now state_offset open_state in omega arith
marked_unready e offset y seen ready (readies unready durable is_open blind) now told is two = absurd (let no : true ≡ false = is in cc)

-- a line that was made READY waits
marked_waits : (l : Layout) (e : HeldLine) (offset y : ℕ) (seen : List (ℕ × ℕ)) (ready : Bool) → Marks e offset y seen ready → (now safe now' safe' : Spot) → Tells e.seen now
    → ((o : ℕ) → (IsAmong e.dirty o → ⊥) → (IsGiven e o → ⊥) → safe o ≡ now o) → IsFitLine l now → ((o : ℕ) → now' o ≡ updated now offset y o) → ((o : ℕ) → safe' o ≡ safe o) → ready ≡ true
    → IsWaiting l seen now' safe'
marked_waits l e offset y seen ready (fills other unready is_empty) now safe now' safe' told clean fit stored stays is = absurd (cc)
marked_waits l e offset y seen ready (opens unready is_empty) now safe now' safe' told clean fit stored stays is = absurd (cc)
marked_waits l e offset y seen ready (readies unready durable is_open blind) now safe now' safe' told clean fit stored stays is =
    let beside : (o : ℕ) → o ≢ state_offset → now' o ≡ now o = λ o other. stored o ∙ updated-other now state_offset ready_state o other in
    let entry : IsEntry l now = ⊎_elim (λ none. absurd (let opened : now state_offset ≡ open_state = is_open now told in omega arith)) (λ entry. entry) fit in
    record {
      state = inr (stored state_offset ∙ updated-same now state_offset ready_state);
      entry = entry_alike l.nodes now (updated now' state_offset ready_state) (let at : updated now' state_offset ready_state state_offset ≡ ready_state = updated-same now' state_offset ready_state in omega arith) (λ o other within. updated-other now' state_offset ready_state o other ∙ beside o other) entry;
      durable = λ o other. stays o ∙ clean o (λ among. subst (λ (dirty : List (ℕ × ℕ)). IsAmong dirty o) durable among) (λ given. absurd (let no : true ≡ false = sym given.ready ∙ unready in cc)) ∙ sym (beside o other);
      blind = blind;
    }

-- a drain of a word of the line
module _ (w : World) (e : HeldLine) (lawful : Lawful w) (fit : AreFit w.layout w.words) (sure : SureLine w.layout w.words e) (offset y : ℕ) (dirty : List (ℕ × ℕ)) (small : offset < 8) (fits : y < 2 ^ 64)
    (has : HasWord w.layout (Line e.caller e.number offset)) (cleans : Cleans e.dirty offset dirty) where
  abbrev drained : List ℕ
  drained = acted w.layout w.words (Drain (line_address w.layout e.caller e.number offset) y)

  at_durable : drained ≡ slice_set w.words (address_of w.layout (Durable (Line e.caller e.number offset))) y
  at_durable = ap (λ p. slice_set w.words p y) (action_address-drain w.layout (Line e.caller e.number offset) y)

  drained_other : (p : Location) → HasLocation w.layout p → p ≢ Durable (Line e.caller e.number offset) → at w.layout drained p ≡ at w.layout w.words p
  drained_other p there other = ap (λ z. at w.layout z p) at_durable ∙ at-set_other w.layout w.words (Durable (Line e.caller e.number offset)) p y has there other

  line_stays : (c j o : ℕ) → line_in w.layout drained c j o ≡ line_in w.layout w.words c j o
  line_stays c j o = line-alike w.layout w.words drained c j o (λ there. drained_other (Cached (Line c j o)) there (λ d. cc))

  safe_other : (c j o : ℕ) → (c ≢ e.caller) ⊎ ((j ≢ e.number) ⊎ (o ≢ offset)) → safe_line w.layout drained c j o ≡ safe_line w.layout w.words c j o
  safe_other c j o other = safe-alike w.layout w.words drained c j o (λ there. drained_other (Durable (Line c j o)) there
      (λ d. ⊎_elim (λ n. n (ap caller_at d)) (λ rest. ⊎_elim (λ n. n (ap number_at d)) (λ n. n (ap offset_at d)) rest) other))

  safe_own : safe_line w.layout drained e.caller e.number offset ≡ y
  safe_own = safe-here w.layout drained e.caller e.number offset has ∙ ap (λ z. at w.layout z (Durable (Line e.caller e.number offset))) at_durable
      ∙ at-set_same w.layout w.words (Durable (Line e.caller e.number offset)) y lawful.row.whole has

  drained_lawful : Lawful (record w { words = drained })
  drained_lawful = beside_law w drained lawful
      (acted_row w.layout w.words (Drain (line_address w.layout e.caller e.number offset) y) lawful.row
      ((names_cached w.layout (Line e.caller e.number offset) has, keeps_header w.layout (Line e.caller e.number offset) y has (λ k lt d. cc)), fits))
      (ap (λ z. facts (record w { words = z })) at_durable ∙ facts-elsewhere w.layout w.words w.base w.history (Durable (Line e.caller e.number offset)) y has (λ n o d. cc, λ n d. cc))
      (λ v there other. inl (drained_other (Durable v) there (λ same. other (subst IsAside (sym (ap durable_word same)) tt))))
      (drained_other Clock tt (λ d. cc))
      (λ v there none. drained_other (Cached v) there (λ d. cc))

  -- all other words of the line that the party relies on
  drained_clean : (o : ℕ) → o ≢ offset → (IsAmong dirty o → ⊥) → (IsGiven e o → ⊥) → safe_line w.layout drained e.caller e.number o ≡ line_in w.layout drained e.caller e.number o
  drained_clean o other spared given = safe_other e.caller e.number o (inr (inr other)) ∙ sure.clean o (λ among. ⊎_elim other spared (cleans o among)) given ∙ sym (line_stays e.caller e.number o)

  -- a line that waits goes on to
  drained_waits : (offset ≡ state_offset) ⊎ (y ≡ line_in w.layout w.words e.caller e.number offset) → e.ready ≡ true → IsWaiting w.layout e.seen (line_in w.layout drained e.caller e.number) (safe_line w.layout drained e.caller e.number)
  drained_waits what ready =
      let waits = sure.waits ready in
      let same : line_in w.layout drained e.caller e.number ≡ line_in w.layout w.words e.caller e.number = same_spots _ _ (line_stays e.caller e.number) in
      subst (λ (s : Spot). IsWaiting w.layout e.seen s (safe_line w.layout drained e.caller e.number)) (sym same) (record {
        state = waits.state;
        entry = waits.entry;
        durable = λ o other. ⊎_elim
            (λ (one : o ≡ offset). subst (λ k. safe_line w.layout drained e.caller e.number k ≡ line_in w.layout w.words e.caller e.number k) (sym one) (safe_own ∙ ⊎_elim (λ zero. absurd (other (one ∙ zero))) (λ now. now) what))
            (λ (apart : o ≢ offset). safe_other e.caller e.number o (inr (inr apart)) ∙ waits.durable o other)
            (cases_eq o offset);
        blind = waits.blind;
      })

  note_law : AreFit w.layout drained → ((o : ℕ) → o ≡ offset → (IsGiven e o → ⊥) → safe_line w.layout drained e.caller e.number o ≡ line_in w.layout drained e.caller e.number o)
      → (e.ready ≡ true → IsWaiting w.layout e.seen (line_in w.layout drained e.caller e.number) (safe_line w.layout drained e.caller e.number))
      → NoteLaw w (Drain (line_address w.layout e.caller e.number offset) y) e (Some (record e { dirty = dirty; hand = None }))
  note_law drained_fit own waits = record {
    kept = drained_lawful;
    fit = drained_fit;
    sure = record {
      here = sure.here;
      seen = subst (Tells e.seen) (sym (same_spots _ _ (line_stays e.caller e.number))) sure.seen;
      clean = λ o spared given.
          let given' : IsGiven e o → ⊥ = (λ g. given (record { ready = g.ready; state = g.state })) in
          ⊎_elim (λ (same : o ≡ offset). own o same given') (λ (other : o ≢ offset). drained_clean o other spared given') (cases_eq o offset);
      hand = tt;
      unready = λ own_line two. sure.unready own_line (sym (line_stays e.caller e.number state_offset) ∙ two);
      waits = waits;
    };
    others = λ c j o other. (line_stays c j o, safe_other c j o (inl other));
  }

  -- it copies the cached word
  drains_own : y ≡ at w.layout w.words (Cached (Line e.caller e.number offset)) → NoteLaw w (Drain (line_address w.layout e.caller e.number offset) y) e (Some (record e { dirty = dirty; hand = None }))
  drains_own is =
      let now : y ≡ line_in w.layout w.words e.caller e.number offset = is ∙ sym (line-here w.layout w.words e.caller e.number offset has) in
      note_law
      (fits_closer w.layout w.words drained line_stays
      (λ c j o. elim (cases_word c j o) [
        | inl mine ↦ inr ((λ k. safe_line w.layout drained (mine.0 k) (mine.1 k) (mine.2 k)) ∙ safe_own ∙ now ∙ sym (λ k. line_in w.layout w.words (mine.0 k) (mine.1 k) (mine.2 k)))
        | inr other ↦ inl (safe_other c j o other)
      ]) fit)
      (λ o same given. subst (λ k. safe_line w.layout drained e.caller e.number k ≡ line_in w.layout drained e.caller e.number k) (sym same) (safe_own ∙ now ∙ sym (line_stays e.caller e.number offset)))
      (drained_waits (inr now))
    where
      cases_word : (c j o : ℕ) → ((c ≡ e.caller) × (j ≡ e.number) × (o ≡ offset)) ⊎ ((c ≢ e.caller) ⊎ ((j ≢ e.number) ⊎ (o ≢ offset)))
      cases_word c j o = ⊎_elim
          (λ (one : c ≡ e.caller). ⊎_elim
          (λ (two : j ≡ e.number). ⊎_elim (λ (three : o ≡ offset). inl (one, two, three)) (λ no. inr (inr (inr no))) (cases_eq o offset))
          (λ no. inr (inr (inl no)))
          (cases_eq j e.number))
          (λ no. inr (inl no))
          (cases_eq c e.caller)

  -- or a state of a line that waits
  drains_given : IsGiven e offset → y ≡ ready_state → NoteLaw w (Drain (line_address w.layout e.caller e.number offset) y) e (Some (record e { dirty = dirty; hand = None }))
  drains_given given what =
      let waits = sure.waits given.ready in
      note_law
      (λ c j mix is. elim (cases_line c j) [
        | inl mine ↦
            let own : (o : ℕ) → (mix o ≡ safe_line w.layout drained e.caller e.number o) ⊎ (mix o ≡ line_in w.layout w.words e.caller e.number o) = λ o. ⊎_elim
            (λ durably. inl (durably ∙ (λ k. safe_line w.layout drained (mine.0 k) (mine.1 k) o)))
            (λ cached. inr (cached ∙ line_stays c j o ∙ (λ k. line_in w.layout w.words (mine.0 k) (mine.1 k) o)))
            (is o) in
            waiting_fit w.layout e.seen (line_in w.layout w.words e.caller e.number) (safe_line w.layout w.words e.caller e.number) mix waits
            (⊎_elim (λ durably. inr (durably ∙ zeroth given.state ∙ what)) (λ cached. subst WaitsOrIsEmpty (sym cached) waits.state) (own 0))
            (λ o other. ⊎_elim (λ durably. durably ∙ safe_other e.caller e.number o (inr (inr (λ same. other (same ∙ given.state)))) ∙ waits.durable o other) (λ cached. cached) (own o))
        | inr other ↦ fit c j mix (λ o. ⊎_elim
            (λ durably. inl (durably ∙ safe_other c j o (⊎_elim (λ no. inl no) (λ no. inr (inl no)) other)))
            (λ cached. inr (cached ∙ line_stays c j o))
            (is o))
      ])
      (λ o same not. absurd (not (record { ready = given.ready; state = same ∙ given.state })))
      (drained_waits (inl given.state))
    where
      zeroth : offset ≡ state_offset → safe_line w.layout drained e.caller e.number 0 ≡ y
      zeroth zero = (λ k. safe_line w.layout drained e.caller e.number (sym zero k)) ∙ safe_own

      cases_line : (c j : ℕ) → ((c ≡ e.caller) × (j ≡ e.number)) ⊎ ((c ≢ e.caller) ⊎ (j ≢ e.number))
      cases_line c j = ⊎_elim
          (λ (one : c ≡ e.caller). ⊎_elim (λ (two : j ≡ e.number). inl (one, two)) (λ no. inr (inr no)) (cases_eq j e.number))
          (λ no. inr (inl no))
          (cases_eq c e.caller)

pub notes_law : NotesKeep
notes_law w e a x next lawful fit sure (looks_up {offset = offset} {seen = seen} small learnt blind) told =
    let l = w.layout in
    let has : HasWord l (Line e.caller e.number offset) = (sure.here.0, sure.here.1, small) in
    let address = line_address l e.caller e.number offset in
    let same : acted l w.words (Load address) ≡ w.words = set-get_or w.words address 0 in
    let is : line_in l w.words e.caller e.number offset ≡ x = line-here l w.words e.caller e.number offset has ∙ sym told in
    record {
      kept = subst (λ words. Lawful (record w { words = words })) (sym same) lawful;
      fit = subst (AreFit l) (sym same) fit;
      sure = subst (λ words. SureLine l words (record e { seen = seen; hand = Some (offset, x) })) (sym same)
          (record {
            here = sure.here;
            seen = learnt (line_in l w.words e.caller e.number) sure.seen is;
            clean = λ o spared given. sure.clean o spared (λ g. given (record { ready = g.ready; state = g.state }));
            hand = inl is;
            unready = sure.unready;
            waits = λ ready. let waits = sure.waits ready in record { state = waits.state; entry = waits.entry; durable = waits.durable; blind = blind ready };
          });
      others = λ c j o other. load_leaves l w.words (acted l w.words (Load address)) same c j o;
    }
notes_law w e a x next lawful fit sure (notes {y = y} {offset = offset} {seen = seen} {dirty = dirty} {ready = ready} small fits marks soils told_seen keeps) told =
    let l = w.layout in
    let words = stored w lawful fit e sure offset small y fits in
    let own = own_line w lawful fit e sure offset small y fits in
    let stays = safe_stays w lawful fit e sure offset small y fits in
    let now = line_in l w.words e.caller e.number in
    let unready : e.ready ≡ false = marks_unready e offset y seen ready marks in
    record {
      kept = stored_lawful w lawful fit e sure offset small y fits;
      fit = stored_fit w lawful fit e sure offset small y fits (unready_keeps w lawful fit e sure offset small y fits unready keeps);
      sure = record {
        here = sure.here;
        seen = subst (Tells seen) (sym (same_spots (line_in l words e.caller e.number) (updated now offset y) own)) (told_seen now sure.seen);
        clean = λ o spared given.
            let beside : o ≢ offset = (λ same. spared (subst (IsAmong dirty) (sym same) soils.stored)) in
            stays e.caller e.number o ∙ sure.clean o (λ among. spared (soils.others o among)) (λ given'. absurd (let no : true ≡ false = sym given'.ready ∙ unready in cc))
            ∙ sym (updated-other now offset y o beside) ∙ sym (own o);
        hand = tt;
        unready = λ own two. marked_unready e offset y seen ready marks now sure.seen own (sym (own_line w lawful fit e sure offset small y fits 0) ∙ two);
        waits = λ is_ready. marked_waits l e offset y seen ready marks now (safe_line l w.words e.caller e.number) (line_in l words e.caller e.number) (safe_line l words e.caller e.number)
            sure.seen sure.clean (fit e.caller e.number now (λ o. inr refl)) own (stays e.caller e.number) is_ready;
      };
      others = λ c j o other. (other_line w lawful fit e sure offset small y fits c j o (inl other), stays c j o);
    }
notes_law w e a x next lawful fit sure (keeps_safe {y = y} {offset = offset} {dirty = dirty} small fits hand cleans) told =
    let l = w.layout in
    let has : HasWord l (Line e.caller e.number offset) = (sure.here.0, sure.here.1, small) in
    elim (hand_word l w.words e offset y has hand sure) [
      | inl is ↦ drains_own w e lawful fit sure offset y dirty small fits has cleans is
      | inr given ↦ drains_given w e lawful fit sure offset y dirty small fits has cleans given.0 given.1
    ]
