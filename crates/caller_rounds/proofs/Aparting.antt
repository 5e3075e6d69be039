-- Callers whose names are apart: under each name their history leaves what the script's order does.
use Rattle.std.proofs.Common.{◌≡◌, ℕ, zero, suc, ◌+◌, ◌<◌, ◌≤◌, ◌⊎◌, ⊎_elim, Bool, true, false, cond, List, [], ◌∷◌, length, get_or, map, refl, sym, ap, subst, ◌∙◌, arith, eq-eqb}
use Rattle.std.specs.Prelude.{◌==◌, All, Contains, Option, Some, None, option_map}
use Rattle.std.specs.List.{filter, filter_map, cons_option, enumerate_from, AllByRecursion}
use Rattle.std.specs.FinMap.{same_map}
use Rattle.std.specs.Cmp.Lexicographic.{nat_list_cmp_total}
use Rattle.std.proofs.lemmas.Bool.{cases_order, eqb-true}
use Rattle.std.proofs.lemmas.List.Elements.{recursion_from_All, All-contains}
use Rattle.std.proofs.lemmas.Map.Lookups.{exact_bytes}
use Rattle.std.proofs.lemmas.List.{get_or_default}
use Rattle.cat_history.specs.Maps.{Map, at}
use Rattle.cat_history.specs.CrashEnds.{after_changes}
use Rattle.cat_history.specs.Writes.{after_all, changed, name_of}
use Rattle.cat_history.specs.Records.{Call, call_of, change_asked, place_of, placed_write, placed_writes}
use Rattle.cat_history.specs.Rounds.{IsAnswer}
use Rattle.cat_history.specs.declared.op.CallerOp.{CallerOp}
use Rattle.cat_history.specs.declared.op.Change.{Change}
use Rattle.cat_history.specs.declared.op.Change.TheVariants as change
use Rattle.cat_history.specs.declared.op.Op.{Op}
use Rattle.cat_history.specs.declared.op.Op.TheVariants.{Put, Get, Del, Scan}
use Rattle.cat_history.specs.declared.op.Write.{Write}
use Rattle.cat_history.specs.declared.record.Record.{Record}
use Rattle.cat_history.specs.declared.record.Reply.{Reply}
use Rattle.cat_history.specs.declared.record.Reply.TheVariants.{Old, Parts, Full, Spent, Cut, Unstarted}
use Rattle.cat_history.proofs.NameLemmas.{same, same-Decides, by_names}
use Rattle.cat_history.proofs.ChangeLemmas.{at-changed_other, changed_found}
use Rattle.caller_rounds.specs.CallerRounds.{own_writes, asked_of, calls_from, EachHasReplies, by_caller}
use Rattle.caller_rounds.specs.Apart.{changes_asked, AreApart, TookPlace, ApartIsInOrder}
use Rattle.caller_rounds.proofs.Parting.{elem-within, has-flat, has-first, has-later, given-by, map-has, filter-has}
use Rattle.caller_rounds.proofs.Meeting.{writers-few}
use Rattle.caller_rounds.proofs.Calling.{some-same, none-some}

-- ---- under one name

abbrev named : List ℕ → Change → Bool
named x c = same x (name_of c)

-- what a change leaves under its name
abbrev effect : Change → Option ℕ
effect (change.Put name value) = Some value
effect (change.Del name) = None

abbrev last-effect : Option ℕ → List Change → Option ℕ
last-effect before [] = before
last-effect before (c ∷ cs) = last-effect (effect c) cs

at-own : (m : Map) (c : Change) → at (changed m c) (name_of c) ≡ effect c
at-own m (change.Put name value) = changed_found m (change.Put name value)
at-own m (change.Del name) = changed_found m (change.Del name)

at-end : (m : Map) (x : List ℕ) (cs : List Change) → at (after_changes m cs) x ≡ last-effect (at m x) (filter (named x) cs)
at-end m x [] = refl
at-end m x (c ∷ cs) =
    at-end (changed m c) x cs
    ∙ by_names x (name_of c) (λ b. last-effect (at (changed m c) x) (filter (named x) cs) ≡ last-effect (at m x) (cond b (c ∷ filter (named x) cs) (filter (named x) cs)))
    (λ here. ap (λ o. last-effect o (filter (named x) cs)) (ap (at (changed m c)) here ∙ at-own m c))
    (λ other. ap (λ o. last-effect o (filter (named x) cs)) (at-changed_other m c x other))

abbrev changes-of : List Write → List Change
changes-of history = map (λ (w : Write). w.change) history

all-changes : (m : Map) (history : List Write) → after_all m history ≡ after_changes m (changes-of history)
all-changes m [] = refl
all-changes m (w ∷ history) = all-changes (changed m w.change) history

-- ---- lists by two tests

-- where all that pass the first test pass the second one, filtering by the second one first makes no difference
narrowed : {X : Type 0} (p q : X → Bool) (xs : List X) → AllByRecursion (λ x. p x ≡ true → q x ≡ true) xs → filter p (filter q xs) ≡ filter p xs
narrowed p q [] all = refl
narrowed {X} p q (x ∷ xs) all = by (p x) (q x) refl refl (narrowed p q xs all.1)
  where
    by : (b c : Bool) → p x ≡ b → q x ≡ c → filter p (filter q xs) ≡ filter p xs → filter p (cond c (x ∷ filter q xs) (filter q xs)) ≡ cond b (x ∷ filter p xs) (filter p xs)
    by true true is_p is_q rest = ap (λ b. cond b (x ∷ filter p (filter q xs)) (filter p (filter q xs))) is_p ∙ ap (λ l. x ∷ l) rest
    by false true is_p is_q rest = ap (λ b. cond b (x ∷ filter p (filter q xs)) (filter p (filter q xs))) is_p ∙ rest
    by true false is_p is_q rest = absurd (let both : true ≡ false = sym (all.0 is_p) ∙ is_q in cc)
    by false false is_p is_q rest = rest

filter-map : {X Y : Type 0} (f : X → Y) (p : Y → Bool) (xs : List X) → filter p (map f xs) ≡ map f (filter (λ x. p (f x)) xs)
filter-map f p [] = refl
filter-map {X} {Y} f p (x ∷ xs) = ap (λ l. cond (p (f x)) (f x ∷ l) l) (filter-map f p xs) ∙ out (p (f x))
  where
    out : (b : Bool) → cond b (f x ∷ map f (filter (λ y. p (f y)) xs)) (map f (filter (λ y. p (f y)) xs)) ≡ map f (cond b (x ∷ filter (λ y. p (f y)) xs) (filter (λ y. p (f y)) xs))
    out true = refl
    out false = refl

filter-none : {X : Type 0} (p : X → Bool) (xs : List X) → AllByRecursion (λ x. p x ≡ true → ⊥) xs → filter p xs ≡ []
filter-none p [] all = refl
filter-none {X} p (x ∷ xs) all = by (p x) refl (filter-none p xs all.1)
  where
    by : (b : Bool) → p x ≡ b → filter p xs ≡ [] → cond b (x ∷ filter p xs) (filter p xs) ≡ []
    by true is rest = absurd (all.0 is)
    by false is rest = rest

-- what stands in a list holds of each
each-of : {X : Type 0} (P : X → Type 0) (xs : List X) → ((x : X) → Contains xs x → P x) → AllByRecursion P xs
each-of P [] each = tt
each-of P (x ∷ xs) each = (each x (has-first x xs), each-of P xs (λ y has. each y (has-later x xs y has)))

-- what passes a test stood there
filter-from : {X : Type 0} (p : X → Bool) (xs : List X) (x : X) → Contains (filter p xs) x → Contains xs x × (p x ≡ true)
filter-from p [] x has = absurd (let less = has.1 in omega arith)
filter-from {X} p (y ∷ xs) x has = by (p y) refl has (filter-from p xs x)
  where
    by : (b : Bool) → p y ≡ b → Contains (cond b (y ∷ filter p xs) (filter p xs)) x → (Contains (filter p xs) x → Contains xs x × (p x ≡ true)) → Contains (y ∷ xs) x × (p x ≡ true)
    by true is (zero, less, same) more = (subst (Contains (y ∷ xs)) same (has-first y xs), subst (λ z. p z ≡ true) same is)
    by true is (suc n, less, same) more = let there = more (n, omega arith, same) in (has-later y xs x there.0, there.1)
    by false is has more = let there = more has in (has-later y xs x there.0, there.1)

-- what a map has is of an element
map-from : {X Y : Type 0} (f : X → Y) (xs : List X) (y : Y) → Contains (map f xs) y → (x : X) × Contains xs x × (f x ≡ y)
map-from f [] y has = absurd (let less = has.1 in omega arith)
map-from f (x ∷ xs) y (zero, less, is) = (x, has-first x xs, is)
map-from f (x ∷ xs) y (suc n, less, is) = let there = map-from f xs y (n, omega arith, is) in (there.0, has-later x xs there.0 there.1, there.2)

ops-are : (caller index : ℕ) (ops : List Op) → map (λ (c : Call). c.op) (calls_from caller index ops) ≡ ops
ops-are caller index [] = refl
ops-are caller index (op ∷ ops) = ap (λ l. op ∷ l) (ops-are caller (index + 1) ops)

record-ops : (records : List Record) → map (λ (c : Call). c.op) (map call_of records) ≡ map (λ (r : Record). r.op) records
record-ops [] = refl
record-ops (r ∷ records) = ap (λ l. r.op ∷ l) (record-ops records)

-- ---- records that took place

abbrev ch : ℕ × Write → Change
ch e = e.1.change

took-one : (base : Map) (history : List Write) (limit caller index : ℕ) (op : Op) (reply : Reply) (rest : List (ℕ × Write)) → IsAnswer base history limit op reply → TookPlace reply
    → map ch (cons_option (placed_write (record { caller = caller; index = index; op = op; reply = reply })) rest) ≡ cons_option (change_asked op) (map ch rest)
took-one base history limit caller index (Put name value) (Old old place) rest is took = refl
took-one base history limit caller index (Get name) (Old old place) rest is took = refl
took-one base history limit caller index (Del name) (Old old place) rest is took = refl
took-one base history limit caller index (Scan from count) (Old old place) rest is took = absurd is
took-one base history limit caller index (Put name value) (Parts parts cut) rest is took = absurd is
took-one base history limit caller index (Get name) (Parts parts cut) rest is took = absurd is
took-one base history limit caller index (Del name) (Parts parts cut) rest is took = absurd is
took-one base history limit caller index (Scan from count) (Parts parts cut) rest is took = refl
took-one base history limit caller index op Full rest is took = absurd took
took-one base history limit caller index op (Spent clock) rest is took = absurd took
took-one base history limit caller index op (Cut mark) rest is took = absurd took
took-one base history limit caller index op Unstarted rest is took = absurd took

took-all : (base : Map) (history : List Write) (limit : ℕ) (records : List Record) → AllByRecursion (λ (r : Record). IsAnswer base history limit r.op r.reply) records → AllByRecursion (λ (r : Record). TookPlace r.reply) records
    → map ch (placed_writes records) ≡ filter_map change_asked (map (λ (r : Record). r.op) records)
took-all base history limit [] is took = refl
took-all base history limit (r ∷ records) is took =
    took-one base history limit r.caller r.index r.op r.reply (placed_writes records) is.0 took.0 ∙ ap (cons_option (change_asked r.op)) (took-all base history limit records is.1 took.1)

placed-change : (r : Record) (e : ℕ × Write) → placed_write r ≡ Some e → (change_asked r.op ≡ Some e.1.change) × (e.1.caller ≡ r.caller)
placed-change r e is = by r.caller r.index (place_of r.reply) (change_asked r.op) e is
  where
    by : (caller index : ℕ) (o : Option ℕ) (c : Option Change) (e : ℕ × Write) → elim o [
      | None ↦ None
      | Some place ↦ option_map (λ c. (place, record { caller = caller; index = index; change = c })) c
    ] ≡ Some e → (c ≡ Some e.1.change) × (e.1.caller ≡ caller)
    by caller index None c e is = absurd (none-some is)
    by caller index (Some place) None e is = absurd (none-some is)
    by caller index (Some place) (Some c) e is = let same = some-same is in (ap (λ (x : ℕ × Write). Some x.1.change) same, ap (λ (x : ℕ × Write). x.1.caller) (sym same))

-- ---- one name has one caller

-- where only calls of this caller are about the name, only they count under it
mine-count : (x : List ℕ) (k : ℕ) (asked : List CallerOp) → AllByRecursion (λ (a : CallerOp). (c : Change) → change_asked a.op ≡ Some c → named x c ≡ true → a.caller ≡ k) asked
    → filter (named x) (changes_asked asked) ≡ filter (named x) (filter_map change_asked (asked_of k asked))
mine-count x k [] all = refl
mine-count x k (a ∷ asked) all = by (change_asked a.op) refl (a.caller == k) refl (mine-count x k asked all.1)
  where
    rest : List Change
    rest = changes_asked asked

    mine-ops : List Op
    mine-ops = asked_of k asked

    by : (o : Option Change) → change_asked a.op ≡ o → (b : Bool) → (a.caller == k) ≡ b → filter (named x) rest ≡ filter (named x) (filter_map change_asked mine-ops)
        → filter (named x) (cons_option (change_asked a.op) rest)
        ≡ filter (named x) (filter_map change_asked (map (λ (o : CallerOp). o.op) (cond (a.caller == k) (a ∷ filter (λ (o : CallerOp). o.caller == k) asked) (filter (λ (o : CallerOp). o.caller == k) asked))))
    by None asks b is same =
        ap (λ o. filter (named x) (cons_option o rest)) asks ∙ same ∙ sym (none-here b)
        ∙ ap (λ c. filter (named x) (filter_map change_asked (map (λ (o : CallerOp). o.op) (cond c (a ∷ filter (λ (o : CallerOp). o.caller == k) asked) (filter (λ (o : CallerOp). o.caller == k) asked))))) (sym is)
      where
        none-here : (c : Bool) → filter (named x) (filter_map change_asked (map (λ (o : CallerOp). o.op) (cond c (a ∷ filter (λ (o : CallerOp). o.caller == k) asked) (filter (λ (o : CallerOp). o.caller == k) asked)))) ≡ filter (named x) (filter_map change_asked mine-ops)
        none-here true = ap (λ o. filter (named x) (cons_option o (filter_map change_asked mine-ops))) asks
        none-here false = refl
    by (Some c) asks true is same =
        ap (λ o. filter (named x) (cons_option o rest)) asks
        ∙ ap (λ l. cond (named x c) (c ∷ l) l) same
        ∙ sym (ap (λ o. filter (named x) (cons_option o (filter_map change_asked mine-ops))) asks)
        ∙ ap (λ b. filter (named x) (filter_map change_asked (map (λ (o : CallerOp). o.op) (cond b (a ∷ filter (λ (o : CallerOp). o.caller == k) asked) (filter (λ (o : CallerOp). o.caller == k) asked))))) (sym is)
    by (Some c) asks false is same =
        ap (λ o. filter (named x) (cons_option o rest)) asks
        ∙ dropped (named x c) refl
        ∙ same
        ∙ ap (λ b. filter (named x) (filter_map change_asked (map (λ (o : CallerOp). o.op) (cond b (a ∷ filter (λ (o : CallerOp). o.caller == k) asked) (filter (λ (o : CallerOp). o.caller == k) asked))))) (sym is)
      where
        dropped : (b : Bool) → named x c ≡ b → cond b (c ∷ filter (named x) rest) (filter (named x) rest) ≡ filter (named x) rest
        dropped true passes = absurd (let mine : (a.caller == k) ≡ true = eq-eqb a.caller k (all.0 c asks passes) in let both : true ≡ false = sym mine ∙ is in cc)
        dropped false other = refl

-- a name's caller, or any number
owner : (x : List ℕ) (whole asked : List CallerOp) → AreApart whole → ((a : CallerOp) → Contains asked a → Contains whole a)
    → (k : ℕ) × ((b : CallerOp) → Contains asked b → (d : Change) → change_asked b.op ≡ Some d → x ≡ name_of d → b.caller ≡ k)
owner x whole [] apart within = (0, λ b has d asks is. absurd (let less = has.1 in omega arith))
owner x whole (a ∷ asked) apart within = by (change_asked a.op) refl (owner x whole asked apart (λ b has. within b (has-later a asked b has)))
  where
    Owned : List CallerOp → Type 0
    Owned l = (k : ℕ) × ((b : CallerOp) → Contains l b → (d : Change) → change_asked b.op ≡ Some d → x ≡ name_of d → b.caller ≡ k)

    skip : ((d : Change) → change_asked a.op ≡ Some d → x ≡ name_of d → ⊥) → Owned asked → Owned (a ∷ asked)
    skip never rest = (rest.0, λ b has d asks is. by_place b has d asks is)
      where
        by_place : (b : CallerOp) → Contains (a ∷ asked) b → (d : Change) → change_asked b.op ≡ Some d → x ≡ name_of d → b.caller ≡ rest.0
        by_place b (zero, less, same) d asks is = absurd (never d (ap (λ (o : CallerOp). change_asked o.op) same ∙ asks) is)
        by_place b (suc n, less, same) d asks is = rest.1 b (n, omega arith, same) d asks is

    by : (o : Option Change) → change_asked a.op ≡ o → Owned asked → Owned (a ∷ asked)
    by None asks rest = skip (λ d other is. none-some (sym asks ∙ other)) rest
    by (Some c) asks rest = by_names x (name_of c) (λ _. Owned (a ∷ asked))
        (λ here. (a.caller, λ b has d asks_b is. apart b a d c (within b has) (within a (has-first a asked)) asks_b asks (sym is ∙ here)))
        (λ other. skip (λ d asks_d is. other (is ∙ ap name_of (some-same (sym asks_d ∙ asks)))) rest)

module _ (base : Map) (limit : ℕ) (asked : List CallerOp) (history : List Write) (told : List (List Record)) (each : EachHasReplies base limit asked history told)
    (writers : All (λ (w : Write). w.caller < length told) history) (callers : All (λ (a : CallerOp). a.caller < length told) asked) (apart : AreApart asked)
    (took : All (λ (r : Record). TookPlace r.reply) (by_caller told)) where
  -- a numbered write of the history is of a call that the script asks of its caller
  asked-for : (e : ℕ × Write) → Contains (enumerate_from 0 history) e → (a : CallerOp) × Contains asked a × (a.caller ≡ e.1.caller) × (change_asked a.op ≡ Some e.1.change)
  asked-for e has =
      let few : e.1.caller < length told = All-contains (λ (q : ℕ × Write). q.1.caller < length told) (enumerate_from 0 history) e (writers-few (length told) 0 history writers) has in
      let there = elem-within told e.1.caller few in
      let answers = each e.1.caller there.0 there.1 in
      let own : Contains (own_writes e.1.caller history) e = filter-has (λ (q : ℕ × Write). q.1.caller == e.1.caller) (enumerate_from 0 history) e has (eq-eqb e.1.caller e.1.caller refl) in
      let by = given-by placed_write there.0 e (subst (λ l. Contains l e) answers.own own) in
      let is = placed-change by.0 e by.2 in
      let ops : map (λ (r : Record). r.op) there.0 ≡ asked_of e.1.caller asked =
      sym (record-ops there.0) ∙ ap (map (λ (c : Call). c.op)) answers.calls ∙ ops-are e.1.caller 0 (asked_of e.1.caller asked) in
      let stands : Contains (asked_of e.1.caller asked) by.0.op = subst (λ l. Contains l by.0.op) ops (map-has (λ (r : Record). r.op) there.0 by.0 by.1) in
      let from = map-from (λ (a : CallerOp). a.op) (filter (λ (a : CallerOp). a.caller == e.1.caller) asked) by.0.op stands in
      let passes = filter-from (λ (a : CallerOp). a.caller == e.1.caller) asked from.0 from.1 in
      (from.0, passes.0, eqb-true from.0.caller e.1.caller passes.1, ap change_asked from.2 ∙ is.0)

  numbered-changes : (k : ℕ) (ws : List Write) → changes-of ws ≡ map ch (enumerate_from k ws)
  numbered-changes k [] = refl
  numbered-changes k (w ∷ ws) = ap (λ l. w.change ∷ l) (numbered-changes (k + 1) ws)

  under : (x : List ℕ) → filter (named x) (changes-of history) ≡ filter (named x) (changes_asked asked)
  under x = ⊎_elim
      (λ (same : k ≡ length told). nobody (omega arith))
      (λ (apart : (k < length told) ⊎ (length told < k)). ⊎_elim somebody (λ (past : length told < k). nobody (omega arith)) apart)
      (cases_order k (length told))
    where
      own : (n : ℕ) × ((b : CallerOp) → Contains asked b → (d : Change) → change_asked b.op ≡ Some d → x ≡ name_of d → b.caller ≡ n)
      own = owner x asked asked apart (λ a has. has)

      k : ℕ
      k = own.0

      numbers : List (ℕ × Write)
      numbers = enumerate_from 0 history

      of-script : (a : CallerOp) → Contains asked a → (c : Change) → change_asked a.op ≡ Some c → named x c ≡ true → a.caller ≡ k
      of-script a has c asks is = own.1 a has c asks ((same-Decides x (name_of c)).0 is)

      of-history : (e : ℕ × Write) → Contains numbers e → named x (ch e) ≡ true → e.1.caller ≡ k
      of-history e has is = let from = asked-for e has in sym from.2 ∙ of-script from.0 from.1 e.1.change from.3 is

      in-numbers : filter (named x) (changes-of history) ≡ map ch (filter (λ e. named x (ch e)) numbers)
      in-numbers = ap (filter (named x)) (numbered-changes 0 history) ∙ filter-map ch (named x) numbers

      somebody : k < length told → filter (named x) (changes-of history) ≡ filter (named x) (changes_asked asked)
      somebody less =
          let there = elem-within told k less in
          let answers = each k there.0 there.1 in
          let taken : All (λ (r : Record). TookPlace r.reply) there.0 = λ i r inside.
          All-contains (λ (q : Record). TookPlace q.reply) (by_caller told) (get_or there.0 i r) took (has-flat told k there.0 (get_or there.0 i r) there.1 (i, inside, get_or_default there.0 i (get_or there.0 i r) r inside)) in
          in-numbers
          ∙ ap (map ch) (sym (narrowed (λ (e : ℕ × Write). named x (ch e)) (λ (e : ℕ × Write). e.1.caller == k) numbers
          (each-of (λ (e : ℕ × Write). named x (ch e) ≡ true → (e.1.caller == k) ≡ true) numbers (λ e has is. eq-eqb e.1.caller k (of-history e has is)))))
          ∙ ap (λ l. map ch (filter (λ (e : ℕ × Write). named x (ch e)) l)) answers.own
          ∙ sym (filter-map ch (named x) (placed_writes there.0))
          ∙ ap (filter (named x)) (took-all base history limit there.0 (recursion_from_All (λ (r : Record). IsAnswer base history limit r.op r.reply) there.0 answers.answers)
          (recursion_from_All (λ (r : Record). TookPlace r.reply) there.0 taken))
          ∙ ap (λ l. filter (named x) (filter_map change_asked l)) (sym (record-ops there.0) ∙ ap (map (λ (c : Call). c.op)) answers.calls ∙ ops-are k 0 (asked_of k asked))
          ∙ sym (mine-count x k asked (each-of (λ (a : CallerOp). (c : Change) → change_asked a.op ≡ Some c → named x c ≡ true → a.caller ≡ k) asked of-script))

      nobody : length told ≤ k → filter (named x) (changes-of history) ≡ filter (named x) (changes_asked asked)
      nobody past =
          in-numbers
          ∙ ap (map ch) (filter-none (λ (e : ℕ × Write). named x (ch e)) numbers (each-of (λ (e : ℕ × Write). named x (ch e) ≡ true → ⊥) numbers
          (λ e has is. let mine = of-history e has is in let few = All-contains (λ (q : ℕ × Write). q.1.caller < length told) numbers e (writers-few (length told) 0 history writers) has in omega arith)))
          ∙ sym (filter-none (named x) (changes_asked asked) (each-of (λ (c : Change). named x c ≡ true → ⊥) (changes_asked asked)
          (λ c has is.
          let from = given-by (λ (a : CallerOp). change_asked a.op) asked c has in
          let mine = of-script from.0 from.1 c from.2 is in
          let few = All-contains (λ (a : CallerOp). a.caller < length told) asked from.0 callers from.1 in
          omega arith)))

pub apart_is_in_order : ApartIsInOrder
apart_is_in_order base limit asked history told each writers callers apart took =
    same_map nat_list_cmp_total exact_bytes (after_all base history) (after_changes base (changes_asked asked))
    (λ x. ap (λ m. at m x) (all-changes base history) ∙ at-end base x (changes-of history)
    ∙ ap (last-effect (at base x)) (under base limit asked history told each writers callers apart took x) ∙ sym (at-end base x (changes_asked asked)))
