-- A step of a call on nodes is, for the law of turns, a step of another party, or none.
use Rattle.std.proofs.Common.{◌≡◌, ◌≢◌, ℕ, ◌+◌, ◌==◌, inl, inr, ⊎_elim, Bool, true, false, cond, List, Option, Some, None, refl, sym, ap, ◌∙◌, subst, arith}
use Rattle.std.specs.Prelude.{IfSome}
use Rattle.std.proofs.lemmas.Bool.{cases_eq}
use Rattle.pm_words.specs.declared.layout.Layout.{Layout}
use Rattle.pm_words.specs.declared.action.Action.{Action}
use Rattle.pm_words.specs.Rows.{IsRow}
use Rattle.pm_words.specs.Codes.{gone_status, merge_kind, ready_state, live_status}
use Rattle.pm_words.specs.Offsets.{bitmap_offset, next_offset}
use Rattle.version_lock.specs.Versions.{is_worn_word, IsFree, IsWorn}
use Rattle.cat_history.specs.Maps.{Map}
use Rattle.cat_history.specs.declared.op.Write.{Write}
use Rattle.data_node.specs.Spots.{Means, updated}
use Rattle.data_node.specs.Lists.{StaysIn, anchor_in}
use Rattle.call_stages.specs.declared.once.Once.{Once}
use Rattle.call_stages.specs.declared.once.Placed.{Placed}
use Rattle.call_stages.specs.Stages.{Stage, Held, Grip, Filling, Gathered, Gone, Splits, Joins, Holds, HoldsNode, Tells}
use Rattle.call_stages.specs.Kinds.{IsCut, Step, looks, locks, locks_read, stores, commits, drains, counts, unlocks, splits, merges, claims, publishes, leaves, Split, fills, lights, switches, glances_left, glances_fresh, drains_left, drains_fresh, trims, Merge, meets, knows_own, knows_right, copies, takes_up, puts_down, parts, gathers, joins, glances_joined, drains_joined, retires, yields}
use Rattle.call_stages.specs.Lines.{HeldLine}
use Rattle.call_stages.specs.Footings.{Minds, HasLine, IsOfMerge, IsOpenOf}
use Rattle.index_law.specs.Facts.{Facts, facts_of, map_now, IsListed, range_of}
use Rattle.index_law.specs.Lawful.{Sure, IsList, AreLive, IsOwnLock}
use Rattle.index_law.specs.Lines.{SureLine}
use Rattle.index_law.proofs.Moves.{split_after, merge_after, MergeGave, fact_after, Gives}
use Rattle.index_law.proofs.Past.{right_above, right_listed, right_anchor, listed_was, listed_else, listed_not}
use Rattle.index_law.proofs.Rows.{with_next, with_past, with_version}
use Rattle.index_law.proofs.Switch.{inside_listed, inside_between, leads_on, anchors_set, listed_after, listed_still, listed_fresh}
use Rattle.index_law.proofs.Versions.{own_lock}
use Rattle.updater_law.specs.Covers.{set_at}
use Rattle.updater_law.specs.Facts.{TurnFacts, HasReadyMerge}
use Rattle.updater_law.specs.Covered.{IsTarget}
use Rattle.updater_law.specs.OtherSteps as others
use Rattle.updater_law.proofs.Columns.{here, other}
use Rattle.index_layer_law.specs.Turnings.{is_listed, line_number}
use Rattle.index_layer_law.proofs.FactTies.{known, rest_in, listed_told, listed_tells, unlisted_tells}
use Rattle.index_layer_law.proofs.Targets.{inside_is_target, none_between}
use Rattle.index_layer_law.proofs.CallMoves.{Moved, now_known, lock_path, unlock_path, status_path, content_path, word_path, held_is, unheld, not_worn}
use Rattle.index_layer_law.proofs.CallLines.{IsOpenNumber, named_words, open_covers}

-- the step of a lock makes its party the holder
abbrev pub holder_after : {l : Layout} {g : ℕ} {s : Stage} {a : Action} {x : ℕ} {t : Stage} {r : Option (Once Placed)} → Step l g s a x t r → (ℕ → ℕ) → ℕ → ℕ → ℕ
holder_after (locks {n = n} same named live between) holder i = set_at holder n i
holder_after (locks_read {n = n} same named live between unworn taken small) holder i = set_at holder n i
holder_after (claims {m = m} unplaced here same) holder i = set_at holder m i
holder_after (merges (meets {m = m} here same untimed leads)) holder i = set_at holder m i
holder_after _ holder i = holder

-- flags that follow from each other are one
flag_same : (one two : Bool) → (one ≡ true → two ≡ true) → (two ≡ true → one ≡ true) → one ≡ two
flag_same true two forth back = sym (forth refl)
flag_same false true forth back = back refl
flag_same false false forth back = refl

module _ (l : Layout) (g : ℕ) (words : List ℕ) (base : Map) (history : List Write) (row : IsRow l words) (caller index since i : ℕ) (holder : ℕ → ℕ) where
  abbrev f : Facts
  f = facts_of l words base history

  abbrev F : TurnFacts
  F = now_known l g f (rest_in l words) holder

  abbrev after : (ℕ → ℕ) → Facts → TurnFacts
  after h f' = known l g f' h (rest_in l words)

  -- what is known beside the stage
  pub record Context (s : Stage) : Type 0 where
    pub sure : Sure l g f caller index since s
    pub list : IsList l f
    pub live : AreLive l g f
    pub holders : (n : ℕ) → HoldsNode s n → holder n ≡ i
    -- of the nodes that are held, it holds those that are its own
    pub own : (n : ℕ) → F.held n ≡ true → holder n ≡ i → HoldsNode s n
    pub merged : (j : ℕ) → F.line.state j ≡ ready_state → F.line.kind j ≡ merge_kind → f.status (F.line.node j) ≡ gone_status

  -- no READY line of a merge is of a listed node
  not_merged : {s : Stage} → Context s → (j n : ℕ) → F.line.state j ≡ ready_state → F.line.kind j ≡ merge_kind → F.line.node j ≡ n → IsListed f n → ⊥
  not_merged context j n ready kind is listed =
      let live = context.live.live n listed in let gone = context.merged j ready kind in let same = ap f.status is in omega arith

  -- with what a split knows of the full node's words, and of the fresh one's, that one is cut
  abbrev Cut : Grip → Grip → Type 0
  Cut left fresh = Tells left.seen (f.now left.node) → Tells fresh.seen (f.now fresh.node) → Means l.slots (range_of l f left.node) (f.now left.node) (map_now f) → StaysIn l.slots (range_of l f left.node) (f.now left.node)
      → IsCut l.slots (range_of l f left.node) (f.now left.node) (f.now fresh.node) (map_now f)

  lock : {s : Stage} (context : Context s) (n w : ℕ) → IsListed f n → IsFree (f.version n) g → (IsWorn (f.version n) g → ⊥) → IsOwnLock g w → Moved F (after (set_at holder n i) (record f { version = λ m. cond (m == n) w (f.version m) }))
  lock context n w listed free unworn own =
      inr (subst (others.OtherStep F) (sym (lock_path l g f (rest_in l words) holder n w i own (not_worn (f.version n) g unworn)))
      (others.locks i n (listed_tells f n listed) (context.live.live n listed) (unheld (f.version n) g free)))

  unlock : {s : Stage} (context : Context s) (n w freed : ℕ) → freed ≡ w + 1 → f.version n ≡ w → IsOwnLock g w → holder n ≡ i
      → ((j : ℕ) → F.line.state j ≡ ready_state → F.line.kind j ≡ merge_kind → HoldsNode s (F.line.node j) → F.line.node j ≡ n) → (f.status n ≡ gone_status → HasReadyMerge F n) → Moved F (after holder (with_version f n freed))
  unlock context n w freed next stands own mine last owner =
      inr (subst (λ v. others.OtherStep F (after holder (with_version f n v))) (sym next)
      (subst (others.OtherStep F) (sym (unlock_path l g f (rest_in l words) holder n w own))
      (others.unlocks i n (is_worn_word (w + 1) g) (held_is l g f (rest_in l words) holder n w stands own) mine
      (λ j ready kind held is. last j ready kind (context.own (F.line.node j) held is)) owner)))

  listed_live : {s : Stage} → Context s → (n : ℕ) → IsListed f n → f.status n ≡ gone_status → HasReadyMerge F n
  listed_live context n listed gone = absurd (let live = context.live.live n listed in omega arith)

  -- the switch of a split
  link : {left fresh : Grip} → Context (Splits left fresh (Filling true)) → (cut : Cut left fresh) (j : ℕ) → IsOpenNumber l words (anchor_in (f.now fresh.node)) j → Moved F (after holder (with_next f left.node fresh.node))
  link {left = left} {fresh = fresh} context cut j open_ =
      let sure = context.sure in
      let n = left.node in
      let y = fresh.node in
      let listed = sure.at.listed in
      let out = sure.at.unlisted in
      let is = cut sure.full.seen sure.new.seen sure.at.settled.means sure.at.settled.stays in
      let lower = (inside_between l f context.list n is.lower is.lower_inside).low in
      let anchored = is.anchored in
      let target = inside_is_target l f context.list n is.anchor is.inside in
      let flags : (m : ℕ) → is_listed (with_next f n y) m ≡ set_at (is_listed f) y true m = λ m. ⊎_elim
      (λ (e : m ≡ y). subst (λ k. is_listed (with_next f n y) k ≡ true) (sym e) (listed_tells (with_next f n y) y (listed_fresh l f context.list n y listed out sure.new.here (map_now f) is)) ∙ sym (here (is_listed f) y m true e))
      (λ (apart : m ≢ y). flag_same (is_listed (with_next f n y) m) (is_listed f m)
      (λ now. ⊎_elim (λ was. listed_tells f m was) (λ e. absurd (apart e)) (listed_after l f context.list n y listed out sure.new.here (map_now f) is m (listed_told (with_next f n y) m now)))
      (λ was. listed_tells (with_next f n y) m (listed_still l f context.list n y listed out sure.new.here (map_now f) is m (listed_told f m was))) ∙ sym (other (is_listed f) y m true apart))
      (cases_eq m y) in
      let path : after holder (with_next f n y) ≡ record F { listed = set_at F.listed y true } = λ k. record F { listed = λ m. flags m k; anchor = λ m. anchors_set f.now n y m k } in
      inr (subst (others.OtherStep F) (sym path)
      (others.links n y j (λ told. out (listed_told f y told)) (sure.at.bright refl) (held_is l g f (rest_in l words) holder y fresh.lock sure.new.stands sure.new.lock)
      (subst (λ key. IsTarget (λ m. is_listed f m ≡ true) (λ m. anchor_in (f.now m)) key n) (sym anchored) target)
      (context.holders n (inl refl) ∙ sym (context.holders y (inr refl))) open_.state open_.covers
      (λ m there same. let most = target.greatest m there (omega arith) in let below = is.below in absurd (omega arith))))

  -- and that of a merge
  unlink : {h : Held} {left right : Grip} → Context (Joins h left right Gathered) → (y : ℕ) → f.now right.node next_offset ≡ y → (j : ℕ) → IsOpenNumber l words (anchor_in (f.now right.node)) j
      → Moved F (after holder (with_past f left.node y right.node))
  unlink {left = left} {right = right} context y on j open_ =
      let sure = context.sure in
      let n = left.node in
      let r = right.node in
      let listed = sure.at.linked.listed in
      let leads = sure.at.linked.leads in
      let φ = with_past f n y r in
      let flags : (m : ℕ) → is_listed φ m ≡ set_at (is_listed f) r false m = λ m. ⊎_elim
      (λ (e : m ≡ r). subst (λ k. is_listed φ k ≡ false) (sym e) (unlisted_tells φ r (listed_not l f context.list n y r listed leads sure.nonzero on)) ∙ sym (here (is_listed f) r m false e))
      (λ (apart : m ≢ r). flag_same (is_listed φ m) (is_listed f m)
      (λ now. listed_tells f m (listed_was l f context.list n y r listed leads sure.nonzero on m (listed_told φ m now)))
      (λ was. listed_tells φ m (listed_else l f context.list n y r listed leads sure.nonzero on m apart (listed_told f m was))) ∙ sym (other (is_listed f) r m false apart))
      (cases_eq m r) in
      let path : after holder φ ≡ record F { listed = set_at F.listed r false } = λ k. record F { listed = λ m. flags m k; anchor = λ m. anchors_set f.now n y m k } in
      let next : anchor_in (f.now (f.now n next_offset)) ≡ anchor_in (f.now r) = ap (λ k. anchor_in (f.now k)) leads in
      let some_next : f.now n next_offset ≢ 0 = (λ none. sure.nonzero (sym leads ∙ none)) in
      inr (subst (others.OtherStep F) (sym path)
      (others.unlinks n r j (listed_tells f n listed) (listed_tells f r (right_listed l f context.list n y r listed leads sure.nonzero on)) sure.apart
      (held_is l g f (rest_in l words) holder n left.lock sure.one.stands sure.one.lock) (held_is l g f (rest_in l words) holder r right.lock sure.other.stands sure.other.lock)
      (context.holders n (inl refl) ∙ sym (context.holders r (inr refl))) (right_above l f context.list n y r listed leads sure.nonzero on)
      (λ m there low. none_between l f context.list n m listed some_next (listed_told f m there) (omega arith)) open_.state open_.covers))

  -- a line that the party has, and what it knows of that
  has_line : (P Q : HeldLine → Type 0) (line : Option HeldLine) → IfSome line P → HasLine line Q → (e : HeldLine) × P e × Q e
  has_line P Q None sure is = absurd is
  has_line P Q (Some e) sure is = (e, sure, is)

  -- a step of a split
  split_moved : {s t : Stage} {a : Action} {x : ℕ} → (k : Split l g s a x t) → Context s → (line : Option HeldLine) → IfSome line (SureLine l words) → Minds s t line → Moved F (after holder (split_after k f))
  split_moved (fills {y = y} {offset = offset} {fresh = fresh} has positive small within soils told) context line sure_line minds =
      inr (subst (others.OtherStep F) (sym (word_path l g f (rest_in l words) holder fresh.node offset y))
      (others.anchors fresh.node (anchor_in (updated (f.now fresh.node) offset y)) (context.sure.at.dark refl) (held_is l g f (rest_in l words) holder fresh.node fresh.lock context.sure.new.stands context.sure.new.lock)))
  split_moved (lights {fresh = fresh} here leads) context line sure_line minds =
      inr (subst (others.OtherStep F) (sym (status_path l g f (rest_in l words) holder fresh.node live_status))
      (others.lights fresh.node (context.sure.at.dark refl) (held_is l g f (rest_in l words) holder fresh.node fresh.lock context.sure.new.stands context.sure.new.lock)))
  split_moved (switches {left = left} {fresh = fresh} here small durable soiled cut told means) context line sure_line minds =
      let sure = context.sure in
      let cuts : Cut left fresh = cut (range_of l f left.node) (f.now left.node) (f.now fresh.node) (map_now f) in
      let is = cuts sure.full.seen sure.new.seen sure.at.settled.means sure.at.settled.stays in
      let own = has_line (SureLine l words) (λ e. IsOpenOf e fresh) line sure_line minds in
      link context cuts (line_number own.0) (open_covers l words own.0 fresh (f.now fresh.node) own.1 own.2 sure.new.seen (named_words l words row.fits fresh.node is.anchor is.named is.anchored))
  split_moved (glances_left has learnt) context line sure_line minds = inl refl
  split_moved (glances_fresh has) context line sure_line minds = inl refl
  split_moved (drains_left has small hand cleans) context line sure_line minds = inl refl
  split_moved (drains_fresh has small hand cleans) context line sure_line minds = inl refl
  split_moved (trims {y = y} {left = left} here small durable soiled anchor told means) context line sure_line minds = inl (content_path l g f (rest_in l words) holder left.node bitmap_offset y (inl refl))

  -- a merged node is given back once the line of its merge is READY
  abbrev pub GivesReady : Stage → Stage → Type 0
  GivesReady s t = (h held : Held) (left right : Grip) (n w : ℕ) → s ≡ Joins h left right Gone → t ≡ Holds n w held → HasReadyMerge F right.node

  -- a step of a merge
  merge_moved : {s t : Stage} {a : Action} {x : ℕ} → (k : Merge l g s a x t) → MergeGave k f → Context s → (line : Option HeldLine) → IfSome line (SureLine l words) → Minds s t line → GivesReady s t
      → Moved F (after (holder_after (merges k) holder i) (merge_after k f))
  merge_moved (meets {n = n} {m = m} {v = v} {u = u} within same untimed leads) given context line sure_line minds gives =
      let sure = context.sure in
      let version : f.version m ≡ v = sym given ∙ same in
      let next : f.now n next_offset ≡ m = leads (f.now n) sure.0.knows in
      let listed : IsListed f m = subst (IsListed f) next (leads_on l f context.list n (inside_listed l f context.list n _ sure.0.inside) (λ none. sure.1.nonzero (sym next ∙ none))) in
      lock context m u listed (subst (λ w. IsFree w g) (sym version) sure.1.word.free) (λ worn. sure.1.word.unworn (subst (λ w. IsWorn w g) version worn)) (own_lock v u g sure.1.word.known sure.1.word.unworn sure.1.word.lock)
  merge_moved (knows_own has positive learnt) given context line sure_line minds gives = inl refl
  merge_moved (knows_right has positive told) given context line sure_line minds gives = inl refl
  merge_moved (copies {n = n} {y = y} {offset = offset} has content small soils learnt means) given context line sure_line minds gives = inl (content_path l g f (rest_in l words) holder n offset y content)
  merge_moved (takes_up has) given context line sure_line minds gives = inl refl
  merge_moved (puts_down has small hand cleans) given context line sure_line minds gives = inl refl
  merge_moved (parts {n = n} {freed = freed} {right = right} next) given context line sure_line minds gives =
      let sure = context.sure in
      let left_listed : IsListed f n = inside_listed l f context.list n _ sure.0.inside in
      let listed : IsListed f right.node = subst (IsListed f) sure.1.leads (leads_on l f context.list n left_listed (λ none. sure.1.nonzero (sym sure.1.leads ∙ none))) in
      unlock context right.node right.lock freed next sure.1.grip.stands sure.1.grip.lock (context.holders right.node (inr refl))
      (λ j ready kind mine. ⊎_elim (λ e. absurd (not_merged context j n ready kind (sym e) left_listed)) (λ e. sym e) mine) (listed_live context right.node listed)
  merge_moved (gathers {n = n} {y = y} small durable soiled told gathered) given context line sure_line minds gives = inl (content_path l g f (rest_in l words) holder n bitmap_offset y (inl refl))
  merge_moved (joins {y = y} {left = left} {right = right} small durable soiled next told) given context line sure_line minds gives =
      let sure = context.sure in
      let on : f.now right.node next_offset ≡ y = next (f.now right.node) sure.other.seen in
      let name = right_anchor l f context.list left.node y right.node sure.at.linked.listed sure.at.linked.leads sure.nonzero on in
      let own = has_line (SureLine l words) (λ e. IsOpenOf e right × IsOfMerge e right) line sure_line minds in
      unlink context y on (line_number own.0) (open_covers l words own.0 right (f.now right.node) own.1 own.2.0 sure.other.seen (named_words l words row.fits right.node name.0 name.1 name.2))
  merge_moved (glances_joined has learnt) given context line sure_line minds gives = inl refl
  merge_moved (drains_joined has small hand cleans) given context line sure_line minds gives = inl refl
  merge_moved (retires {right = right} durable) given context line sure_line minds gives =
      inr (subst (others.OtherStep F) (sym (status_path l g f (rest_in l words) holder right.node gone_status))
      (others.goes right.node (λ told. context.sure.at.unlisted (listed_told f right.node told)) context.sure.at.bright
      (held_is l g f (rest_in l words) holder right.node right.lock context.sure.other.stands context.sure.other.lock)))
  merge_moved (yields {freed = freed} {h = h} {left = left} {right = right} next durable) given context line sure_line minds gives =
      let sure = context.sure in
      unlock context right.node right.lock freed next sure.other.stands sure.other.lock (context.holders right.node (inr refl))
      (λ j ready kind mine. ⊎_elim (λ e. absurd (not_merged context j left.node ready kind (sym e) sure.at.listed)) (λ e. sym e) mine)
      (λ gone. gives h _ left right _ _ refl refl)

  -- each step on nodes
  pub moved : {s t : Stage} {a : Action} {x : ℕ} {r : Option (Once Placed)} → (k : Step l g s a x t r) → Gives k f → Context s → (line : Option HeldLine) → IfSome line (SureLine l words) → Minds s t line → GivesReady s t
      → Moved F (after (holder_after k holder i) (fact_after k f caller index))
  moved (looks look) given context line sure_line minds gives = inl refl
  moved (locks {n = n} {v = v} {w = w} same named live between) given context line sure_line minds gives =
      let sure = context.sure in
      let version : f.version n ≡ v = sym given ∙ same in
      lock context n w ((sure.stands version).listed live) (subst (λ u. IsFree u g) (sym version) sure.word.free) (λ worn. sure.word.unworn (subst (λ u. IsWorn u g) version worn)) (own_lock v w g sure.word.known sure.word.unworn sure.word.lock)
  moved (locks_read {n = n} {v = v} {w = w} same named live between unworn taken small) given context line sure_line minds gives =
      let sure = context.sure in
      let version : f.version n ≡ v = sym given ∙ same in
      lock context n w ((sure.stands version).listed live) (subst (λ u. IsFree u g) (sym version) sure.free) (λ worn. unworn (subst (λ u. IsWorn u g) version worn)) (own_lock v w g sure.known unworn taken)
  moved (stores {n = n} {y = y} {offset = offset} has content small clean soils learnt means) given context line sure_line minds gives = inl (content_path l g f (rest_in l words) holder n offset y content)
  moved (commits {n = n} {y = y} {offset = offset} has content small clean durable soiled old about learnt means) given context line sure_line minds gives = inl (content_path l g f (rest_in l words) holder n offset y content)
  moved (drains has small unready hand cleans) given context line sure_line minds gives = inl refl
  moved (counts durable ready pending unplaced) given context line sure_line minds gives = inl refl
  moved (unlocks {n = n} {w = w} {f = freed} {h = h} next pending durable unready answers) given context line sure_line minds gives =
      let sure = context.sure in
      unlock context n w freed next sure.stands sure.lock (context.holders n refl) (λ j ready kind mine. sym mine) (listed_live context n (inside_listed l f context.list n h.name sure.inside))
  moved (claims {m = m} {v = v} {u = u} unplaced here same) given context line sure_line minds gives =
      let eyes = context.sure.1 in
      let version : f.version m ≡ v = sym given ∙ same in
      inr (subst (others.OtherStep F) (sym (lock_path l g f (rest_in l words) holder m u i (own_lock v u g eyes.word.known eyes.word.unworn eyes.word.lock) (not_worn (f.version m) g (λ worn. eyes.word.unworn (subst (λ w. IsWorn w g) version worn)))))
      (others.claims i m (eyes.stands version refl) (unheld (f.version m) g (subst (λ w. IsFree w g) (sym version) eyes.word.free))))
  moved (publishes {freed = freed} {left = left} {fresh = fresh} next clean_left clean_fresh) given context line sure_line minds gives =
      let sure = context.sure in
      unlock context fresh.node fresh.lock freed next sure.new.stands sure.new.lock (context.holders fresh.node (inr refl))
      (λ j ready kind mine. ⊎_elim (λ e. absurd (not_merged context j left.node ready kind (sym e) sure.at.listed)) (λ e. sym e) mine) (listed_live context fresh.node sure.at.listed_fresh)
  moved (leaves {freed = freed} {left = left} next) given context line sure_line minds gives =
      let sure = context.sure in
      unlock context left.node left.lock freed next sure.grip.stands sure.grip.lock (context.holders left.node refl) (λ j ready kind mine. sym mine) (listed_live context left.node sure.listed)
  moved (splits k) given context line sure_line minds gives = split_moved k context line sure_line minds
  moved (merges k) given context line sure_line minds gives = merge_moved k given context line sure_line minds gives
