-- Until a switch of the list is durable, its party's line covers the node that it put in or left out.
use Rattle.std.proofs.Common.{◌≡◌, ◌≢◌, ℕ, inl, inr, ◌⊎◌, true, false, List, Option, Some, None, refl, sym, ap, ◌∙◌, subst, arith}
use Rattle.std.specs.Prelude.{IfSome}
use Rattle.pm_words.specs.declared.layout.Layout.{Layout}
use Rattle.pm_words.specs.declared.action.Action.{Action}
use Rattle.pm_words.specs.Rows.{IsRow}
use Rattle.pm_words.specs.Codes.{free_status, live_status, ready_state, open_state}
use Rattle.pm_words.specs.Offsets.{next_offset, state_offset}
use Rattle.cat_history.specs.Maps.{Map}
use Rattle.cat_history.specs.declared.op.Write.{Write}
use Rattle.cat_key.specs.Names.{IsName}
use Rattle.data_node.specs.Lists.{anchor_in, key_of}
use Rattle.call_stages.specs.declared.once.Once.{Once}
use Rattle.call_stages.specs.declared.once.Placed.{Placed}
use Rattle.call_stages.specs.Stages.{Stage, Held, Grip, Phase, Filling, Linked, Parted, Pace, Gathered, Joined, Gone, Idle, Saw, Wears, Reads, Holds, Eyes, Splits, Leaves, Meets, Joins, IsSwitched}
use Rattle.call_stages.specs.Kinds.{Look, turns_back, wears, roams, roams_status, is_worn, sees, finds_live, watches, watches_next, turns_away, steps_back, wanders, peeks, peeks_status, eyes, eyes_free, passes, loses, misses, misses_read, times, learns, decides, glances, Step, looks, locks, locks_read, stores, commits, drains, counts, unlocks, splits, merges, claims, publishes, leaves, Split, fills, lights, switches, glances_left, glances_fresh, drains_left, drains_fresh, trims, Merge, meets, knows_own, knows_right, copies, takes_up, puts_down, parts, gathers, joins, glances_joined, drains_joined, retires, yields}
use Rattle.call_stages.specs.Lines.{HeldLine, Notes, passes_line, takes, looks_up, notes, keeps_safe}
use Rattle.call_stages.specs.Footings.{Minds, Waits, HasLine, IsOpenOf, IsOfMerge, IsKnownEmpty, IsLeftToTurn, KeepsOrLetsGo}
use Rattle.index_law.specs.Facts.{Facts, facts_of, map_now, range_of}
use Rattle.index_law.specs.Lawful.{Sure, AreLive}
use Rattle.index_law.specs.Lines.{SureLine, line_in}
use Rattle.index_law.proofs.Past.{right_listed, right_anchor}
use Rattle.updater_law.specs.Covers.{set_at, Lines, IsCover}
use Rattle.updater_law.specs.Facts.{TurnFacts}
use Rattle.updater_law.specs.OtherSteps.{OtherStep}
use Rattle.updater_law.specs.OtherSteps as others
use Rattle.updater_law.proofs.Columns.{other}
use Rattle.updater_law.proofs.Covers.{cover_evicts, cover_noted, cover_stays}
use Rattle.index_layer_law.specs.Turnings.{line_number}
use Rattle.index_layer_law.proofs.FactTies.{rest_in}
use Rattle.index_layer_law.proofs.CallMoves.{Moved, now_known}
use Rattle.index_layer_law.proofs.CallLines.{line_tie, named_words, open_covers}
use Rattle.index_layer_law.proofs.CallSteps.{Context}
use Rattle.call_stages.specs.Stages.{Tells}
use Rattle.call_stages.specs.Kinds.{reads_on}
use Rattle.call_stages.specs.Stages.{IsLoose}
use Rattle.index_law.proofs.Moves.{read_after}
use Rattle.index_law.proofs.Loose.{each_loose}

-- A party has a line that isn't READY, of whose number this holds.
abbrev pub HasUnready : (ℕ → Type 0) → Option HeldLine → Type 0
HasUnready P line = HasLine line (λ e. (e.ready ≡ false) × P (line_number e))

pub unready_by : (P Q : ℕ → Type 0) (line : Option HeldLine) → ((e : HeldLine) → line ≡ Some e → e.ready ≡ false → P (line_number e) → Q (line_number e)) → HasUnready P line → HasUnready Q line
unready_by P Q None by has = absurd has
unready_by P Q (Some e) by has = (has.0, by e refl has.0 has.1)

-- A step of another party keeps the covers of each node that isn't FREE.
pub other_covers : {F F' : TurnFacts} → OtherStep F F' → (n j : ℕ) → F.status n ≢ free_status → IsCover F.line F.safe_line (F.anchor n) j → IsCover F'.line F'.safe_line (F'.anchor n) j
other_covers (others.notes_kind k x empty) n j busy cover = record { state = cover.state; anchor = cover.anchor; safe_state = cover.safe_state; safe_anchor = cover.safe_anchor }
other_covers (others.notes_node k x empty) n j busy cover = record { state = cover.state; anchor = cover.anchor; safe_state = cover.safe_state; safe_anchor = cover.safe_anchor }
other_covers {F = F} (others.notes_anchor k x empty) n j busy cover =
    cover_noted F.line (set_at F.line.anchor k x) F.safe_line (F.anchor n) j k empty (λ m apart. other F.line.anchor k m x apart) cover
other_covers {F = F} (others.opens k empty) n j busy cover = cover_stays F.line F.safe_line (F.anchor n) j k open_state (λ e. omega arith) cover
other_covers {F = F} (others.readies k open_state safe_state safe_anchor ripe) n j busy cover = cover_stays F.line F.safe_line (F.anchor n) j k ready_state (λ e. omega arith) cover
other_covers {F = F} (others.drains_lines lines evict) n j busy cover = cover_evicts F.line F.safe_line lines (F.anchor n) j evict cover
other_covers (others.locks p m listed live free) n j busy cover = cover
other_covers (others.claims p m unused free) n j busy cover = cover
other_covers (others.unlocks p m worn held own last owner) n j busy cover = cover
other_covers {F = F} (others.anchors m k unused held) n j busy cover =
    subst (λ key. IsCover F.line F.safe_line key j) (sym (other F.anchor m n k (λ e. busy (ap F.status e ∙ unused)))) cover
other_covers (others.lights m unused held) n j busy cover = cover
other_covers (others.links m k i out live held target own open_state covers apart) n j busy cover = cover
other_covers (others.unlinks m k i left right apart held other_held own up between open_state covers) n j busy cover = cover
other_covers (others.goes m out live held) n j busy cover = cover

pub moved_covers : (F F' : TurnFacts) → Moved F F' → (n j : ℕ) → F.status n ≢ free_status → IsCover F.line F.safe_line (F.anchor n) j → IsCover F'.line F'.safe_line (F'.anchor n) j
moved_covers F F' (inl same) n j busy cover = subst (λ (G : TurnFacts). IsCover G.line G.safe_line (G.anchor n) j) (sym same) cover
moved_covers F F' (inr step) n j busy cover = other_covers step n j busy cover

-- a cover in other rows of lines that say the same
pub cover_same : (now now' safe safe' : Lines) (key key' j : ℕ) → now' ≡ now → safe' ≡ safe → key' ≡ key → IsCover now safe key j → IsCover now' safe' key' j
cover_same now now' safe safe' key key' j lines safe_lines keys cover =
    subst (λ n. IsCover n safe' key' j) (sym lines) (subst (λ s. IsCover now s key' j) (sym safe_lines) (subst (λ k. IsCover now safe k j) (sym keys) cover))

-- The node of a switch isn't FREE.
pub switched_busy : (l : Layout) (g : ℕ) (f : Facts) (caller index since : ℕ) (s : Stage) → AreLive l g f → Sure l g f caller index since s → (n : ℕ) → IsSwitched s n → f.status n ≢ free_status
switched_busy l g f caller index since Idle live sure n is = absurd is
switched_busy l g f caller index since (Saw m v w k) live sure n is = absurd is
switched_busy l g f caller index since (Wears m v) live sure n is = absurd is
switched_busy l g f caller index since (Reads m v sight told) live sure n is = absurd is
switched_busy l g f caller index since (Holds m w h) live sure n is = absurd is
switched_busy l g f caller index since (Eyes m w h k v u free) live sure n is = absurd is
switched_busy l g f caller index since (Splits left fresh (Filling lit)) live sure n is = absurd is
switched_busy l g f caller index since (Splits left fresh Linked) live sure n is = λ free. let bright = live.live fresh.node sure.at.listed_fresh in let same = ap f.status is in omega arith
switched_busy l g f caller index since (Splits left fresh Parted) live sure n is = absurd is
switched_busy l g f caller index since (Leaves left) live sure n is = absurd is
switched_busy l g f caller index since (Meets m w h right) live sure n is = absurd is
switched_busy l g f caller index since (Joins h left right Gathered) live sure n is = absurd is
switched_busy l g f caller index since (Joins h left right Joined) live sure n is = λ free. let bright = sure.at.bright in let same = ap f.status is in omega arith
switched_busy l g f caller index since (Joins h left right Gone) live sure n is = absurd is

-- With a step on its line the party keeps that it has one that isn't READY.
pub line_stays : (l : Layout) (s : Stage) (n : ℕ) (P : ℕ → Type 0) (line after : Option HeldLine) (a : Action) (x : ℕ) → IsSwitched s n → Notes l line a x after → Waits s line after → HasUnready P line → HasUnready P after
line_stays l s n P line after a x is (passes_line caller low within) waits has = absurd has
line_stays l s n P line after a x is (takes caller low empty_state) waits has = absurd has
line_stays l s n P line after a x is (looks_up within learnt blind) waits has = has
line_stays l s n P line after a x is (notes {ready = ready} within fits marks soils told keeps) waits has = (
  elim ready as (λ b. ready ≡ b → b ≡ false) [
    | true ↦ λ is_ready. absurd ((waits has.0 is_ready).0 n is)
    | false ↦ λ unready. refl
  ] refl,
  has.1,
)
line_stays l s n P line after a x is (keeps_safe within fits hand cleans) waits has = has

loose_unswitched : (s : Stage) → IsLoose s → (n : ℕ) → IsSwitched s n → ⊥
loose_unswitched s loose n = each_loose (λ s. IsSwitched s n → ⊥) (λ is. is) (λ m v w k is. is) (λ m v is. is) (λ m v sight told is. is) s loose

no_look : {l : Layout} {g : ℕ} {s : Stage} {a : Action} {x : ℕ} {t : Stage} {r : Option (Once Placed)} → Look l g s a x t r → (n : ℕ) → IsSwitched t n → ⊥
no_look (turns_back loose within busy) n is = is
no_look (wears loose within free worn) n is = is
no_look (roams has) n is = is
no_look (roams_status within) n is = is
no_look (is_worn has) n is = is
no_look (sees loose within free unworn lock) n is = is
no_look (finds_live within live) n is = is
no_look (watches has positive live next learnt) n is = is
no_look (watches_next has low high ne live live' next leads learnt) n is = is
no_look (turns_away loose within up) n is = is
no_look (steps_back loose within up) n is = is
no_look (wanders loose has up) n is = is
no_look (peeks within unready) n is = is
no_look (peeks_status within unready) n is = is
no_look (eyes clean durable within nonzero free unworn lock) n is = is
no_look (eyes_free within free) n is = is
no_look (passes within) n is = is
no_look (loses within other) n is = is
no_look (misses other) n is = is
no_look (misses_read other small) n is = is
no_look (times clean below) n is = is
no_look (learns has positive unready knows) n is = is
no_look (decides has positive clean durable about knows decided) n is = is
no_look (reads_on {t = t} k) n is = loose_unswitched t (read_after k) n is
no_look (glances has unready) n is = is

same_split : (left fresh left' fresh' : Grip) (phase : Phase) (n : ℕ) → fresh'.node ≡ fresh.node → IsSwitched (Splits left' fresh' phase) n → IsSwitched (Splits left fresh phase) n
same_split left fresh left' fresh' (Filling lit) n same is = absurd is
same_split left fresh left' fresh' Linked n same is = sym same ∙ is
same_split left fresh left' fresh' Parted n same is = absurd is

same_merge : (h : Held) (left left' right : Grip) (pace : Pace) (n : ℕ) → IsSwitched (Joins h left' right pace) n → IsSwitched (Joins h left right pace) n
same_merge h left left' right Gathered n is = absurd is
same_merge h left left' right Joined n is = is
same_merge h left left' right Gone n is = absurd is

module _ (l : Layout) (g : ℕ) (words : List ℕ) (base : Map) (history : List Write) (row : IsRow l words) (caller index since i : ℕ) (holder : ℕ → ℕ) where
  abbrev f : Facts
  f = facts_of l words base history

  abbrev F : TurnFacts
  F = now_known l g f (rest_in l words) holder

  abbrev Around : Stage → Type 0
  Around = Context l g words base history row caller index since i holder

  -- The party's switch is the one that it was, or is made by this step: its line covers the node, which isn't FREE.
  abbrev pub Arrives : Stage → Option HeldLine → ℕ → Type 0
  Arrives s line n = IsSwitched s n ⊎ ((F.status n ≢ free_status) × HasUnready (IsCover F.line F.safe_line (F.anchor n)) line)

  at_node : (line : Option HeldLine) (m n : ℕ) → m ≡ n → f.status m ≡ live_status → HasUnready (IsCover F.line F.safe_line (F.anchor m)) line
      → (F.status n ≢ free_status) × HasUnready (IsCover F.line F.safe_line (F.anchor n)) line
  at_node line m n same bright has = subst (λ k. (F.status k ≢ free_status) × HasUnready (IsCover F.line F.safe_line (F.anchor k)) line) same ((λ free. omega arith), has)

  open_line : (node : Grip) (line : Option HeldLine) → Tells node.seen (f.now node.node) → (name : List ℕ) → IsName name → anchor_in (f.now node.node) ≡ key_of name → IfSome line (SureLine l words) → HasLine line (λ e. IsOpenOf e node)
      → HasUnready (IsCover F.line F.safe_line (F.anchor node.node)) line
  open_line node None told name named anchored sure has = absurd has
  open_line node (Some e) told name named anchored sure has = (has.unready, (open_covers l words e node (f.now node.node) sure has told (named_words l words row.fits node.node name named anchored)).covers)

  split_arrives : {s t : Stage} {a : Action} {x : ℕ} → Split l g s a x t → Around s → (line : Option HeldLine) → IfSome line (SureLine l words) → Minds s t line → (n : ℕ) → IsSwitched t n → Arrives s line n
  split_arrives (fills has positive small within soils told) context line sure_line minds n is = absurd is
  split_arrives (lights within leads) context line sure_line minds n is = absurd is
  split_arrives (switches {left = left} {fresh = fresh} here small durable soiled cut told means) context line sure_line minds n is =
      let sure = context.sure in
      let cuts = cut (range_of l f left.node) (f.now left.node) (f.now fresh.node) (map_now f) sure.full.seen sure.new.seen sure.at.settled.means sure.at.settled.stays in
      inr (at_node line fresh.node n is (sure.at.bright refl) (open_line fresh line sure.new.seen cuts.anchor cuts.named cuts.anchored sure_line minds))
  split_arrives (glances_left {left = left} {fresh = fresh} {phase = phase} has learnt) context line sure_line minds n is = inl (same_split left fresh left fresh phase n refl is)
  split_arrives (glances_fresh {left = left} {fresh = fresh} {phase = phase} has) context line sure_line minds n is = inl (same_split left fresh left fresh phase n refl is)
  split_arrives (drains_left {left = left} {fresh = fresh} {phase = phase} has small hand cleans) context line sure_line minds n is = inl (same_split left fresh left fresh phase n refl is)
  split_arrives (drains_fresh {left = left} {fresh = fresh} {phase = phase} has small hand cleans) context line sure_line minds n is = inl (same_split left fresh left fresh phase n refl is)
  split_arrives (trims within small durable soiled anchor told means) context line sure_line minds n is = absurd is

  of_right : (right : Grip) (line : Option HeldLine) → HasLine line (λ e. IsOpenOf e right × IsOfMerge e right) → HasLine line (λ e. IsOpenOf e right)
  of_right right None has = has
  of_right right (Some e) has = has.0

  merge_arrives : {s t : Stage} {a : Action} {x : ℕ} → Merge l g s a x t → Around s → (line : Option HeldLine) → IfSome line (SureLine l words) → Minds s t line → (n : ℕ) → IsSwitched t n → Arrives s line n
  merge_arrives (meets within same untimed leads) context line sure_line minds n is = absurd is
  merge_arrives (knows_own has positive learnt) context line sure_line minds n is = absurd is
  merge_arrives (knows_right has positive told) context line sure_line minds n is = absurd is
  merge_arrives (copies has content small soils learnt means) context line sure_line minds n is = absurd is
  merge_arrives (takes_up has) context line sure_line minds n is = absurd is
  merge_arrives (puts_down has small hand cleans) context line sure_line minds n is = absurd is
  merge_arrives (parts next) context line sure_line minds n is = absurd is
  merge_arrives (gathers small durable soiled told gathered) context line sure_line minds n is = absurd is
  merge_arrives (joins {y = y} {left = left} {right = right} small durable soiled next told) context line sure_line minds n is =
      let sure = context.sure in
      let on : f.now right.node next_offset ≡ y = next (f.now right.node) sure.other.seen in
      let name = right_anchor l f context.list left.node y right.node sure.at.linked.listed sure.at.linked.leads sure.nonzero on in
      let bright = context.live.live right.node (right_listed l f context.list left.node y right.node sure.at.linked.listed sure.at.linked.leads sure.nonzero on) in
      inr (at_node line right.node n is bright (open_line right line sure.other.seen name.0 name.1 name.2 sure_line (of_right right line minds)))
  merge_arrives (glances_joined {h = h} {left = left} {right = right} {pace = pace} has learnt) context line sure_line minds n is = inl (same_merge h left left right pace n is)
  merge_arrives (drains_joined {h = h} {left = left} {right = right} {pace = pace} has small hand cleans) context line sure_line minds n is = inl (same_merge h left left right pace n is)
  merge_arrives (retires durable) context line sure_line minds n is = absurd is
  merge_arrives (yields next durable) context line sure_line minds n is = absurd is

  -- each step on nodes
  pub arrives : {s t : Stage} {a : Action} {x : ℕ} {r : Option (Once Placed)} → Step l g s a x t r → Around s → (line : Option HeldLine) → IfSome line (SureLine l words) → Minds s t line → (n : ℕ) → IsSwitched t n → Arrives s line n
  arrives (looks look) context line sure_line minds n is = absurd (no_look look n is)
  arrives (locks same named live between) context line sure_line minds n is = absurd is
  arrives (locks_read same named live between unworn taken small) context line sure_line minds n is = absurd is
  arrives (stores has content small clean soils learnt means) context line sure_line minds n is = absurd is
  arrives (commits has content small clean durable soiled old about learnt means) context line sure_line minds n is = absurd is
  arrives (drains has small unready hand cleans) context line sure_line minds n is = absurd is
  arrives (counts durable ready pending unplaced) context line sure_line minds n is = absurd is
  arrives (unlocks next pending durable unready answers) context line sure_line minds n is = absurd is
  arrives (claims unplaced within same) context line sure_line minds n is = absurd is
  arrives (publishes next left fresh) context line sure_line minds n is = absurd is
  arrives (leaves next) context line sure_line minds n is = absurd is
  arrives (splits k) context line sure_line minds n is = split_arrives k context line sure_line minds n is
  arrives (merges k) context line sure_line minds n is = merge_arrives k context line sure_line minds n is

  -- a line that covers a node isn't let go
  pub held_on : (t : Stage) (line after : Option HeldLine) (key : ℕ) → IfSome line (SureLine l words) → KeepsOrLetsGo t line after → HasUnready (IsCover F.line F.safe_line key) line → HasUnready (IsCover F.line F.safe_line key) after
  held_on t line after key sure (inl same) has = subst (HasUnready (IsCover F.line F.safe_line key)) (sym same) has
  held_on t line after key sure (inr gone) has = absurd (of line sure gone.1 has)
    where
      of : (own : Option HeldLine) → IfSome own (SureLine l words) → IfSome own (λ e. IsKnownEmpty e ⊎ IsLeftToTurn t e) → HasUnready (IsCover F.line F.safe_line key) own → ⊥
      of None sure_own goes covers = covers
      of (Some e) sure_own (inl empty) covers = covers.1.state (line_tie l words e sure_own.here state_offset (omega arith) ∙ empty (line_in l words e.caller e.number) sure_own.seen)
      of (Some e) sure_own (inr left_so) covers = let no : false ≡ true = sym covers.0 ∙ left_so.ready in cc
