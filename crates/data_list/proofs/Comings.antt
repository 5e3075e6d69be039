-- From where a walk comes to the target of its key, and by how many hops.
use Rattle.std.proofs.Common.{◌≡◌, ◌≢◌, ℕ, zero, suc, ◌+◌, ◌<◌, ◌≤◌, ◌⊎◌, ◌==◌, ◌||◌, true, false, cond, ltb, List, [], ◌∷◌, length, Option, Some, None, inl, inr, ⊎_elim, refl, sym, subst, ap, ◌∙◌, arith}
use Rattle.std.specs.Prelude.{nat_le, IfSome}
use Rattle.std.specs.List.{AllByRecursion, IsDistinct, list_any}
use Rattle.std.proofs.Math.Dec.{eqb}
use Rattle.std.proofs.lemmas.Bool.{cases_eq, eq-eqb, ne_eqb, lt-ltb, le-ltb, leb-true, leb-false}
use Rattle.std.proofs.lemmas.Map.Steps.{length-le_from_distinct_below}
use Rattle.pm_words.specs.Codes.{free_status, live_status, gone_status}
use Rattle.pm_words.specs.declared.layout.Layout.{Layout}
use Rattle.pm_words.specs.Offsets.{next_offset}
use Rattle.data_node.specs.Lists.{ListNode, anchor_in, target_from, IsBetween, IsMember, IsIn, IsChain, Rise}
use Rattle.data_node.specs.Spots.{Spot}
use Rattle.data_node.proofs.ListLemmas.{target_in, target_between, all_member, rise_at}
use Rattle.call_stages.specs.Orders.{IsOneOf, Ordered}
use Rattle.data_list.specs.Still.{Nodes, position_from, IsQuietList, AreQuiet, Comes, is_there, leaves_free, leaves_gone, goes_back, goes_on, FirstComes, EachComes, ComesOnce, ComesSoon}

-- where a walk hops from a node of this status, and from one that is in use; none where it ends
abbrev pub live_leads : Nodes → ℕ → ℕ → Option ℕ
live_leads f key n =
    cond (ltb key (anchor_in (f.now n))) (Some (f.prev n))
    (cond (f.now n next_offset == 0) None (cond (ltb key (anchor_in (f.now (f.now n next_offset)))) None (Some (f.now n next_offset))))

abbrev leads_with : Nodes → ℕ → ℕ → ℕ → Option ℕ
leads_with f key n status = cond (status == live_status) (live_leads f key n) (cond (status == gone_status) (Some (f.prev n)) (Some 0))

abbrev pub leads_to : Nodes → ℕ → ℕ → Option ℕ
leads_to f key n = leads_with f key n (f.status n)

pub one_of : (o : Option ℕ) (n k : ℕ) → o ≡ Some n → o ≡ Some k → n ≡ k
one_of o n k e d = subst (λ (q : Option ℕ). IfSome q (λ a. a ≡ k)) e (subst (λ (q : Option ℕ). IfSome q (λ a. a ≡ k)) (sym d) refl)

pub none_of : (o : Option ℕ) (n : ℕ) → o ≡ None → o ≡ Some n → ⊥
none_of o n e d = absurd (let no : None ≡ Some n = sym e ∙ d in cc)

-- by a node's words
pub free_leads : (f : Nodes) (key n : ℕ) → f.status n ≡ free_status → leads_to f key n ≡ Some 0
free_leads f key n is = ap (leads_with f key n) is

-- a status that is neither LIVE nor GONE leads where FREE does
pub else_leads : (f : Nodes) (key n : ℕ) → (f.status n == live_status) ≡ false → (f.status n == gone_status) ≡ false → leads_to f key n ≡ Some 0
else_leads f key n live gone = ap (λ b. cond b (live_leads f key n) (cond (f.status n == gone_status) (Some (f.prev n)) (Some 0))) live ∙ ap (λ b. cond b (Some (f.prev n)) (Some 0)) gone

pub gone_leads : (f : Nodes) (key n : ℕ) → f.status n ≡ gone_status → leads_to f key n ≡ Some (f.prev n)
gone_leads f key n is = ap (leads_with f key n) is

pub back_leads : (f : Nodes) (key n : ℕ) → f.status n ≡ live_status → key < anchor_in (f.now n) → leads_to f key n ≡ Some (f.prev n)
back_leads f key n live past =
    ap (leads_with f key n) live
    ∙ ap (λ b. cond b (Some (f.prev n)) (cond (f.now n next_offset == 0) None (cond (ltb key (anchor_in (f.now (f.now n next_offset)))) None (Some (f.now n next_offset))))) (lt-ltb _ _ past)

-- where the key isn't below the anchor, the next node tells
above_leads : (f : Nodes) (key n : ℕ) → f.status n ≡ live_status → anchor_in (f.now n) ≤ key
    → leads_to f key n ≡ cond (f.now n next_offset == 0) None (cond (ltb key (anchor_in (f.now (f.now n next_offset)))) None (Some (f.now n next_offset)))
above_leads f key n live above =
    ap (leads_with f key n) live
    ∙ ap (λ b. cond b (Some (f.prev n)) (cond (f.now n next_offset == 0) None (cond (ltb key (anchor_in (f.now (f.now n next_offset)))) None (Some (f.now n next_offset))))) (le-ltb key (anchor_in (f.now n)) above)

pub last_leads : (f : Nodes) (key n : ℕ) → f.status n ≡ live_status → anchor_in (f.now n) ≤ key → f.now n next_offset ≡ 0 → leads_to f key n ≡ None
last_leads f key n live above last =
    above_leads f key n live above ∙ ap (λ b. cond b None (cond (ltb key (anchor_in (f.now (f.now n next_offset)))) None (Some (f.now n next_offset)))) (eq-eqb (f.now n next_offset) 0 last)

-- it leads on to a next node
abbrev next_leads : Nodes → ℕ → ℕ → Option ℕ
next_leads f key n = cond (ltb key (anchor_in (f.now (f.now n next_offset)))) None (Some (f.now n next_offset))

inner_leads : (f : Nodes) (key n : ℕ) → f.status n ≡ live_status → anchor_in (f.now n) ≤ key → f.now n next_offset ≢ 0 → leads_to f key n ≡ next_leads f key n
inner_leads f key n live above some = above_leads f key n live above ∙ ap (λ b. cond b None (next_leads f key n)) (ne_eqb (f.now n next_offset) 0 some)

pub ends_leads : (f : Nodes) (key n : ℕ) → f.status n ≡ live_status → anchor_in (f.now n) ≤ key → f.now n next_offset ≢ 0 → key < anchor_in (f.now (f.now n next_offset)) → leads_to f key n ≡ None
ends_leads f key n live above some past = inner_leads f key n live above some ∙ ap (λ b. cond b None (Some (f.now n next_offset))) (lt-ltb _ _ past)

pub on_leads : (f : Nodes) (key n : ℕ) → f.status n ≡ live_status → anchor_in (f.now n) ≤ key → f.now n next_offset ≢ 0 → anchor_in (f.now (f.now n next_offset)) ≤ key → leads_to f key n ≡ Some (f.now n next_offset)
on_leads f key n live above some up = inner_leads f key n live above some ∙ ap (λ b. cond b None (Some (f.now n next_offset))) (le-ltb key _ up)

-- a listed node's anchor is below that of the next
next_above : (now : ℕ → Spot) (here : ℕ) (list : List ListNode) → IsChain now here list → Rise (anchor_in (now here)) list → (n : ℕ) → (n ≡ here) ⊎ IsMember list n → now n next_offset ≢ 0
    → anchor_in (now n) < anchor_in (now (now n next_offset))
next_above now here [] chain rise n (inl e) some = absurd (some (ap (λ k. now k next_offset) e ∙ chain))
next_above now here [] chain rise n (inr among) some = absurd among
next_above now here (m ∷ behind) chain rise n (inl e) some =
    let anchor : anchor_in (now (now n next_offset)) ≡ m.anchor = ap (λ k. anchor_in (now (now k next_offset))) e ∙ ap (λ k. anchor_in (now k)) chain.0 ∙ chain.2 in
    let own : anchor_in (now n) ≡ anchor_in (now here) = ap (λ k. anchor_in (now k)) e in
    let up : anchor_in (now here) < m.anchor = rise.0 in
    omega arith
next_above now here (m ∷ behind) chain rise n (inr among) some = next_above now m.node behind chain.3 (rise_at now m behind chain.2 rise.1) n among some

-- the nodes that a walk visits, which are different
record Path (l : Layout) (f : Nodes) (key n hops : ℕ) : Type 0 where
  path : List ℕ
  long : length path ≡ suc hops
  distinct : IsDistinct eqb path
  below : (q : ℕ) → list_any (eqb q) path ≡ true → q < l.nodes
  apart : (x top : ℕ) → hops < top → Comes l f key x top → AllByRecursion (λ y. eqb x y ≡ false) path

module _ (l : Layout) (g : ℕ) (f : Nodes) (key : ℕ) (quiet : IsQuietList l g f) where
  abbrev pub Follows : ℕ → ℕ → Type 0
  Follows n zero = leads_to f key n ≡ None
  Follows n (suc hops) = (m : ℕ) × (leads_to f key n ≡ Some m) × Comes l f key m hops

  pub target_listed : (n : ℕ) → n ≡ target_from 0 f.list key → IsIn f.list n
  target_listed n is = subst (λ k. (k ≡ 0) ⊎ IsMember f.list k) (sym is) (target_in 0 f.list key)

  at_target : (n : ℕ) → n ≡ target_from 0 f.list key → leads_to f key n ≡ None
  at_target n is =
      let lowest = quiet.lowest in
      let between : IsBetween (f.now n) (f.now (f.now n next_offset)) key = target_between f.now 0 f.list quiet.chain key n (omega arith) (sym is) in
      let live = quiet.live n (target_listed n is) in
      ⊎_elim
      (λ (last : f.now n next_offset ≡ 0). last_leads f key n live between.low last)
      (λ (some : f.now n next_offset ≢ 0). ends_leads f key n live between.low some (between.high some))
      (cases_eq (f.now n next_offset) 0)

  -- where it goes from a node from which it comes to the target
  pub unroll : (n hops : ℕ) → Comes l f key n hops → Follows n hops
  unroll n hops (is_there is) = at_target n is
  unroll n hops (leaves_free within free rest) = (0, free_leads f key n free, rest)
  unroll n hops (leaves_gone within gone rest) = (f.prev n, gone_leads f key n gone, rest)
  unroll n hops (goes_back listed past rest) = (f.prev n, back_leads f key n (quiet.live n listed) past, rest)
  unroll n hops (goes_on listed some up rest) =
      let above = next_above f.now 0 f.list quiet.chain (subst (λ a. Rise a f.list) (sym quiet.lowest) quiet.rise) n listed some in
      (f.now n next_offset, on_leads f key n (quiet.live n listed) (omega arith) some up, rest)

  pub one_come : (n a b : ℕ) → Comes l f key n a → Comes l f key n b → a ≡ b
  one_come n zero zero x y = refl
  one_come n zero (suc b) x y = absurd (none_of _ _ (unroll n zero x) (unroll n (suc b) y).1)
  one_come n (suc a) zero x y = absurd (none_of _ _ (unroll n zero y) (unroll n (suc a) x).1)
  one_come n (suc a) (suc b) x y =
      let p = unroll n (suc a) x in
      let q = unroll n (suc b) y in
      ap suc (one_come p.0 a b p.2 (subst (λ m. Comes l f key m b) (one_of (leads_to f key n) q.0 p.0 q.1 p.1) q.2))

  -- a node in use on the way is listed
  pub comes_listed : (n hops : ℕ) → Comes l f key n hops → f.status n ≡ live_status → IsIn f.list n
  comes_listed n hops (is_there is) live = target_listed n is
  comes_listed n hops (leaves_free within free rest) live = absurd (two free live)
    where
      two : f.status n ≡ free_status → f.status n ≡ live_status → ⊥
      two a b = omega arith
  comes_listed n hops (leaves_gone within gone rest) live = absurd (two gone live)
    where
      two : f.status n ≡ gone_status → f.status n ≡ live_status → ⊥
      two a b = omega arith
  comes_listed n hops (goes_back listed past rest) live = listed
  comes_listed n hops (goes_on listed some up rest) live = listed

  pub listed_within : 0 < l.nodes → (n : ℕ) → IsIn f.list n → n < l.nodes
  listed_within some n (inl e) = omega arith
  listed_within some n (inr among) = all_member (λ k. k < l.nodes) f.list n quiet.within among

  pub comes_within : 0 < l.nodes → (n hops : ℕ) → Comes l f key n hops → n < l.nodes
  comes_within some n hops (is_there is) = listed_within some n (target_listed n is)
  comes_within some n hops (leaves_free within free rest) = within
  comes_within some n hops (leaves_gone within gone rest) = within
  comes_within some n hops (goes_back listed past rest) = listed_within some n listed
  comes_within some n hops (goes_on listed next up rest) = listed_within some n listed

  -- from where it makes more hops is another node
  other_node : (n hops x top : ℕ) → Comes l f key n hops → hops < top → Comes l f key x top → x ≢ n
  other_node n hops x top comes more from e =
      let same : top ≡ hops = one_come n top hops (subst (λ k. Comes l f key k top) e from) comes in absurd (omega arith)

  path_of : 0 < l.nodes → (n hops : ℕ) → Comes l f key n hops → Path l f key n hops
  unfolding IsDistinct
  path_of some n zero comes = record {
    path = n ∷ [];
    long = refl;
    distinct = (tt, tt);
    below = λ q is. ⊎_elim
        (λ (e : q ≡ n). let within = comes_within some n zero comes in omega arith)
        (λ (other : q ≢ n). absurd (let no : (false || list_any (eqb q) []) ≡ true = subst (λ b. (b || list_any (eqb q) []) ≡ true) (ne_eqb q n other) is in cc))
        (cases_eq q n);
    apart = λ x top more from. (ne_eqb x n (other_node n zero x top comes more from), tt);
  }
  path_of some n (suc hops) comes =
      let next = unroll n (suc hops) comes in
      let rest = path_of some next.0 hops next.2 in
      record {
        path = n ∷ rest.path;
        long = ap suc rest.long;
        distinct = (rest.apart n (suc hops) (omega arith) comes, rest.distinct);
        below = λ q is. ⊎_elim
            (λ (e : q ≡ n). let within = comes_within some n (suc hops) comes in omega arith)
            (λ (other : q ≢ n). rest.below q (subst (λ b. (b || list_any (eqb q) rest.path) ≡ true) (ne_eqb q n other) is))
            (cases_eq q n);
        apart = λ x top more from. (ne_eqb x n (other_node n (suc hops) x top comes more from), rest.apart x top (omega arith) from);
      }

  pub comes_few : 0 < l.nodes → (n hops : ℕ) → Comes l f key n hops → hops < l.nodes
  comes_few some n hops comes =
      let path = path_of some n hops comes in
      let few = length-le_from_distinct_below path.path l.nodes path.distinct path.below in
      let long = path.long in
      omega arith

  -- from a node no greater than the key it goes on to the target
  pub forward : (here : ℕ) (behind : List ListNode) → IsIn f.list here → ((k : ℕ) → IsMember behind k → IsMember f.list k) → IsChain f.now here behind
      → target_from here behind key ≡ target_from 0 f.list key → Comes l f key here (position_from behind key)
  forward here [] listed members chain is = is_there is
  forward here (m ∷ behind) listed members chain is =
      elim (nat_le m.anchor key) as (λ b. nat_le m.anchor key ≡ b → cond b (target_from m.node behind key) here ≡ target_from 0 f.list key → Comes l f key here (cond b (1 + position_from behind key) 0)) [
        | true ↦ λ up is.
            let anchor : anchor_in (f.now (f.now here next_offset)) ≡ m.anchor = ap (λ k. anchor_in (f.now k)) chain.0 ∙ chain.2 in
            let least = leb-true m.anchor key up in
            let more : suc (position_from behind key) ≡ 1 + position_from behind key = omega arith in
            subst (Comes l f key here) more (goes_on listed (λ z. chain.1 (sym chain.0 ∙ z)) (omega arith)
            (subst (λ k. Comes l f key k (position_from behind key)) (sym chain.0) (forward m.node behind (inr (members m.node (inl refl))) (λ k member. members k (inr member)) chain.3 is)))
        | false ↦ λ past is. is_there is
      ] refl is

pub first_comes : FirstComes
first_comes l g f key quiet = forward l g f key quiet 0 f.list (inl refl) (λ k is. is) quiet.chain refl

pub comes_once : ComesOnce
comes_once l g f key n hops other quiet = one_come l g f key quiet n hops other

pub comes_soon : ComesSoon
comes_soon l g f key n hops quiet some = comes_few l g f key quiet some n hops

module _ (l : Layout) (g : ℕ) (f : Nodes) (key : ℕ) (all : AreQuiet l g f) where
  abbrev Reached : ℕ → Type 0
  Reached n = (hops : ℕ) × Comes l f key n hops

  -- past the key it goes back from each to the one before it
  back : (here least : ℕ) (behind : List ListNode) → key ≤ least → IsIn f.list here → ((k : ℕ) → IsMember behind k → IsMember f.list k) → IsChain f.now here behind → Rise least behind
      → Reached here → (n : ℕ) → IsMember behind n → Reached n
  back here least [] low listed members chain rise reached n is = absurd is
  back here least (m ∷ behind) low listed members chain rise reached n is =
      let up = rise.0 in
      let anchor = chain.2 in
      let among : IsIn f.list m.node = inr (members m.node (inl refl)) in
      let prev : f.prev m.node ≡ here = subst (λ k. f.prev k ≡ here) chain.0 (all.prevs here listed (λ z. chain.1 (sym chain.0 ∙ z))) in
      let there : Reached m.node = (suc reached.0, goes_back among (omega arith) (subst (λ k. Comes l f key k reached.0) (sym prev) reached.1)) in
      ⊎_elim
      (λ (e : n ≡ m.node). subst (λ k. (hops : ℕ) × Comes l f key k hops) (sym e) there)
      (λ later. back m.node m.anchor behind (omega arith) among (λ k member. members k (inr member)) chain.3 rise.1 there n later)
      is

  spread : (here : ℕ) (behind : List ListNode) → IsIn f.list here → ((k : ℕ) → IsMember behind k → IsMember f.list k) → IsChain f.now here behind → Rise (anchor_in (f.now here)) behind
      → target_from here behind key ≡ target_from 0 f.list key → (n : ℕ) → (n ≡ here) ⊎ IsMember behind n → Reached n
  spread here behind listed members chain rise is n (inl e) =
      subst (λ k. (hops : ℕ) × Comes l f key k hops) (sym e) (position_from behind key, forward l g f key all.quiet here behind listed members chain is)
  spread here [] listed members chain rise is n (inr among) = absurd among
  spread here (m ∷ behind) listed members chain rise is n (inr among) =
      elim (nat_le m.anchor key) as (λ b. nat_le m.anchor key ≡ b → cond b (target_from m.node behind key) here ≡ target_from 0 f.list key → Reached n) [
        | true ↦ λ up is. spread m.node behind (inr (members m.node (inl refl))) (λ k member. members k (inr member)) chain.3 (rise_at f.now m behind chain.2 rise.1) is n among
        | false ↦ λ past is.
            back here key (m ∷ behind) (omega arith) listed members chain (leb-false _ _ past, rise.1) (0, is_there is) n among
      ] refl is

  listed_comes : (n : ℕ) → IsIn f.list n → Reached n
  listed_comes n listed =
      spread 0 f.list (inl refl) (λ k is. is) all.quiet.chain (subst (λ a. Rise a f.list) (sym all.quiet.lowest) all.quiet.rise) refl n listed

  tame_comes : (n : ℕ) → n < l.nodes → f.status n ≢ gone_status → Reached n
  tame_comes n within tame = ⊎_elim
      (λ (live : f.status n ≡ live_status). listed_comes n (all.listed n within live))
      (λ (other : f.status n ≢ live_status).
      let three = all.three n within in
      let first = listed_comes 0 (inl refl) in
      (suc first.0, leaves_free within (omega (arith, tame, other)) first.1))
      (cases_eq (f.status n) live_status)

  gone_comes : (order : List ℕ) → Ordered (λ n. f.status n ≡ gone_status) f.prev order → (n : ℕ) → IsOneOf order n → n < l.nodes → f.status n ≡ gone_status → Reached n
  gone_comes [] ordered n is within gone = absurd is
  gone_comes (k ∷ later) ordered n (inr is) within gone = gone_comes later ordered.1 n is within gone
  gone_comes (k ∷ later) ordered n (inl e) within gone =
      let rest : Reached (f.prev n) = ⊎_elim
      (λ (there : f.status (f.prev n) ≡ gone_status).
      gone_comes later ordered.1 (f.prev n) (subst (λ q. IsOneOf later (f.prev q)) (sym e) (ordered.0 (subst (λ q. f.status q ≡ gone_status) e gone) (subst (λ q. f.status (f.prev q) ≡ gone_status) e there)))
      (all.below n) there)
      (λ tame. tame_comes (f.prev n) (all.below n) tame)
      (cases_eq (f.status (f.prev n)) gone_status) in
      (suc rest.0, leaves_gone within gone rest.1)

pub each_comes : EachComes
each_comes l g f key n all within = ⊎_elim
    (λ (gone : f.status n ≡ gone_status). gone_comes l g f key all all.order.order all.order.ordered n (all.order.all n gone) within gone)
    (λ tame. tame_comes l g f key all n within tame)
    (cases_eq (f.status n) gone_status)
