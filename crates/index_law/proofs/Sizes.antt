-- How many nodes are listed, and how many are GONE.
use Rattle.std.proofs.Common.{◌≡◌, ◌≢◌, ℕ, zero, suc, ◌+◌, ◌<◌, ◌≤◌, ◌==◌, ◌⊎◌, inl, inr, ⊎_elim, Bool, true, false, cond, ◌||◌, List, [], ◌∷◌, length, refl, sym, ap, ◌∙◌, subst, arith}
use Rattle.std.proofs.lemmas.Bool.{cases_eq, eq-eqb, eqb-true, ne_eqb}
use Rattle.std.proofs.lemmas.List.{length-map}
use Rattle.std.specs.List.{AllByRecursion}
use Rattle.cat_history.specs.declared.op.NameOp.TheVariants.{Put, Get, Del}
use Rattle.pm_words.specs.Codes.{live_status, gone_status}
use Rattle.data_node.specs.Spots.{Spot}
use Rattle.data_node.specs.Lists.{ListNode, anchor_in, IsMember, IsChain, Rise}
use Rattle.data_node.proofs.NameCounts.{one_if, tally}
use Rattle.data_node.proofs.RangeNames.{range_names}
use Rattle.index_law.specs.Facts.{Facts, map_now, range_of, IsListed}
use Rattle.index_law.specs.Worlds.{facts}
use Rattle.index_law.specs.Anchors.{text_of_key, gone_nodes, NodesAreCounted}
use Rattle.index_law.specs.LoneShapes.{NoFreeIsNoRoom, NoFreeIsEach, FreeIsRoom}
use Rattle.index_law.proofs.Copies.{full_names}
use Rattle.index_law.proofs.Cutting.{range-names}
use Rattle.data_node.proofs.ListLemmas.{not_behind, rise_at}
use Rattle.index_law.proofs.Starts.{idle_law}
use Rattle.index_law.proofs.Switch.{rise_from}

true_or_false : (b : Bool) → (b ≡ true) ⊎ (b ≡ false)
true_or_false true = inl refl
true_or_false false = inr refl

-- ---- how many numbers a test takes

tally-none : (n : ℕ) (p : ℕ → Bool) → ((k : ℕ) → k < n → p k ≡ false) → tally n p ≡ 0
tally-none zero p none = refl
tally-none (suc n) p none =
    let here : one_if (p n) ≡ 0 = ap one_if (none n (omega arith)) in
    let rest = tally-none n p (λ k below. none k (omega arith)) in
    omega arith

tally-one : (n j : ℕ) → j < n → tally n (λ k. k == j) ≡ 1
tally-one zero j below = absurd (omega arith)
tally-one (suc n) j below =
    ⊎_elim
    (λ (last : n ≡ j).
    let here : one_if (n == j) ≡ 1 = ap one_if (eq-eqb n j last) in
    let rest = tally-none n (λ k. k == j) (λ k under. ne_eqb k j (λ e. omega arith)) in
    omega arith)
    (λ (other : n ≢ j).
    let here : one_if (n == j) ≡ 0 = ap one_if (ne_eqb n j other) in
    let rest = tally-one n j (omega arith) in
    omega arith)
    (cases_eq n j)

tally-whole : (n : ℕ) (p : ℕ → Bool) → ((k : ℕ) → k < n → p k ≡ true) → tally n p ≡ n
tally-whole zero p all = refl
tally-whole (suc n) p all =
    let here : one_if (p n) ≡ 1 = ap one_if (all n (omega arith)) in
    let rest = tally-whole n p (λ k below. all k (omega arith)) in
    omega arith

one-most : (b : Bool) → one_if b ≤ 1
one-most true = omega arith
one-most false = omega arith

tally-most : (n : ℕ) (p : ℕ → Bool) → tally n p ≤ n
tally-most zero p = omega arith
tally-most (suc n) p =
    let here = one-most (p n) in
    let rest = tally-most n p in
    omega arith

tally-short : (n : ℕ) (p : ℕ → Bool) (j : ℕ) → j < n → p j ≡ false → tally n p < n
tally-short zero p j below out = absurd (omega arith)
tally-short (suc n) p j below out =
    ⊎_elim
    (λ (last : j ≡ n).
    let here : one_if (p n) ≡ 0 = ap one_if (subst (λ k. p k ≡ false) last out) in
    let rest = tally-most n p in
    omega arith)
    (λ (other : j ≢ n).
    let here = one-most (p n) in
    let rest = tally-short n p j (omega arith) out in
    omega arith)
    (cases_eq j n)

one-sum : (a b : Bool) → (a ≡ true → b ≡ false) → one_if (a || b) ≡ one_if a + one_if b
one-sum true b apart = let none : one_if b ≡ 0 = ap one_if (apart refl) in omega arith
one-sum false b apart = omega arith

tally-sum : (n : ℕ) (p q : ℕ → Bool) → ((k : ℕ) → k < n → p k ≡ true → q k ≡ false) → tally n (λ k. p k || q k) ≡ tally n p + tally n q
tally-sum zero p q apart = refl
tally-sum (suc n) p q apart =
    let here = one-sum (p n) (q n) (apart n (omega arith)) in
    let rest = tally-sum n p q (λ k below. apart k (omega arith)) in
    omega arith

-- ---- the listed nodes

abbrev among : List ListNode → ℕ → Bool
among [] k = false
among (m ∷ behind) k = (k == m.node) || among behind k

abbrev in_list : ℕ → List ListNode → ℕ → Bool
in_list here list k = (k == here) || among list k

or_false : (b : Bool) → (b || false) ≡ b
or_false true = refl
or_false false = refl

among-is : (list : List ListNode) (k : ℕ) → among list k ≡ true → IsMember list k
among-is [] k is = absurd (let no : false ≡ true = is in cc)
among-is (m ∷ behind) k is =
    ⊎_elim (λ (e : k ≡ m.node). inl e) (λ (other : k ≢ m.node). inr (among-is behind k (sym (ap (λ b. b || among behind k) (ne_eqb k m.node other)) ∙ is))) (cases_eq k m.node)

among-has : (list : List ListNode) (k : ℕ) → IsMember list k → among list k ≡ true
among-has [] k is = absurd is
among-has (m ∷ behind) k (inl e) = ap (λ b. b || among behind k) (eq-eqb k m.node e)
among-has (m ∷ behind) k (inr later) = ap (λ b. (k == m.node) || b) (among-has behind k later) ∙ or_true (k == m.node)
  where
    or_true : (b : Bool) → (b || true) ≡ true
    or_true true = refl
    or_true false = refl

among-not : (list : List ListNode) (k : ℕ) → (IsMember list k → ⊥) → among list k ≡ false
among-not list k out = ⊎_elim (λ (is : among list k ≡ true). absurd (out (among-is list k is))) (λ none. none) (true_or_false (among list k))

list-tally : (now : ℕ → Spot) (n here : ℕ) (list : List ListNode) → IsChain now here list → Rise (anchor_in (now here)) list → here < n → AllByRecursion (λ (m : ListNode). m.node < n) list →
    tally n (in_list here list) ≡ suc (length list)
list-tally now n here [] chain rise low within =
    let sum = tally-sum n (λ k. k == here) (λ k. false) (λ k below is. refl) in
    let one = tally-one n here low in
    let none = tally-none n (λ k. false) (λ k below. refl) in
    omega arith
list-tally now n here (m ∷ behind) chain rise low within =
    let sum = tally-sum n (λ k. k == here) (among (m ∷ behind)) (λ k below is. among-not (m ∷ behind) k (λ member. not_behind now here (m ∷ behind) chain rise (subst (IsMember (m ∷ behind)) (eqb-true k here is) member))) in
    let one = tally-one n here low in
    let rest = list-tally now n m.node behind chain.3 (rise_at now m behind chain.2 rise.1) within.0 within.1 in
    omega arith

-- ---- the GONE ones

gone-tally : (n : ℕ) (f : Facts) → gone_nodes n f ≡ tally n (λ k. f.status k == gone_status)
gone-tally zero f = refl
gone-tally (suc n) f = let rest = gone-tally n f in ap (λ k. cond (f.status n == gone_status) 1 0 + k) rest

pub nodes_are_counted : NodesAreCounted
nodes_are_counted w lawful =
    let l = w.layout in
    let f = facts w in
    let list = lawful.list in
    let nodes : 1 ≤ l.nodes = lawful.row.layout.nodes.0 in
    let p : ℕ → Bool = in_list 0 f.list in
    let q : ℕ → Bool = λ k. f.status k == gone_status in
    let apart : (k : ℕ) → IsListed f k → q k ≡ false = λ k is. ne_eqb (f.status k) gone_status (λ e. let lit = lawful.live.live k is in omega arith) in
    let listed : (k : ℕ) → p k ≡ true → IsListed f k = λ k is.
    ⊎_elim (λ (e : k ≡ 0). inl e) (λ (other : k ≢ 0). inr (among-is f.list k (sym (ap (λ b. b || among f.list k) (ne_eqb k 0 other)) ∙ is))) (cases_eq k 0) in
    let sum = tally-sum l.nodes p q (λ k below is. apart k (listed k is)) in
    let size = list-tally f.now l.nodes 0 f.list list.chain (rise_from l f list) (omega arith) list.within in
    let gone = gone-tally l.nodes f in
    let same = length-map f.list (λ (m : ListNode). text_of_key m.anchor) in
    let most = tally-most l.nodes (λ k. p k || q k) in
    record {
      few = omega arith;
      all = λ each.
          let whole = tally-whole l.nodes (λ k. p k || q k) (λ k below.
          ⊎_elim (λ is. ap (λ b. b || q k) (in-list f.list k is)) (λ is. ap (λ b. p k || b) (eq-eqb (f.status k) gone_status is) ∙ or_true (p k)) (each k below)) in
          omega arith;
      more = λ k below out other.
          let short = tally-short l.nodes (λ k. p k || q k) k below
          (ap (λ b. b || q k) (not-in f.list k out) ∙ ne_eqb (f.status k) gone_status other) in
          omega arith;
    }
  where
    or_true : (b : Bool) → (b || true) ≡ true
    or_true true = refl
    or_true false = refl

    in-list : (list : List ListNode) (k : ℕ) → (k ≡ 0) ⊎ IsMember list k → in_list 0 list k ≡ true
    in-list list k (inl e) = ap (λ b. b || among list k) (eq-eqb k 0 e)
    in-list list k (inr is) = ap (λ b. (k == 0) || b) (among-has list k is) ∙ or_true (k == 0)

    not-in : (list : List ListNode) (k : ℕ) → ((k ≡ 0) ⊎ IsMember list k → ⊥) → in_list 0 list k ≡ false
    not-in list k out = ap (λ b. b || among list k) (ne_eqb k 0 (λ e. out (inl e))) ∙ among-not list k (λ is. out (inr is))

-- ---- room

pub no_free_is_no_room : NoFreeIsNoRoom
no_free_is_no_room w name value n lawful is_name inside settled lacks full each =
    let l = w.layout in
    let f = facts w in
    let all = full_names l.slots l.slots (range_of l f n) (f.now n) (omega arith) full (λ slot within. settled.means.tidy.named slot within (full slot within)) settled.stays in
    let names = range_names l.slots (range_of l f n) (f.now n) (map_now f) settled.means lawful.named ∙ ap length (range-names l f lawful.list lawful.named n name is_name inside) in
    record {
      lacks = lacks;
      whole = omega arith;
      no_node = (nodes_are_counted w lawful).all each;
    }

pub no_free_is_each : NoFreeIsEach
no_free_is_each w lawful idle each k below =
    let f = facts w in
    let least = each k below in
    let most = lawful.live.three k below in
    ⊎_elim
    (λ (lit : f.status k ≡ live_status). inl (lawful.live.listed k below lit ((idle_law w lawful idle).free k below)))
    (λ (other : f.status k ≢ live_status). inr (omega arith))
    (cases_eq (f.status k) live_status)

pub free_is_room : FreeIsRoom
free_is_room w (Put name value) k lawful below free no_room =
    let more = (nodes_are_counted w lawful).more k below (λ is. let lit = lawful.live.live k is in let no : 0 ≡ 1 = sym free ∙ lit in omega arith) (λ e. let no : 0 ≡ 2 = sym free ∙ e in omega arith) in
    let same = no_room.no_node in
    omega arith
free_is_room w (Get name) k lawful below free no_room = no_room
free_is_room w (Del name) k lawful below free no_room = no_room
