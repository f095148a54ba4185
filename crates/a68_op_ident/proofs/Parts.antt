-- The parts of a formula, one by one.
use Rattle.std.proofs.Common.{◌≡◌, ℕ, ◌+◌, ◌<◌, ◌≤◌, ⊎_elim, Bool, true, false, nat_eq, List, [], ◌∷◌, ◌++◌, length, drop, refl, sym, ap, ◌∙◌, subst, arith, Some, None, slice_get, eqb-true}
use Rattle.std.specs.Prelude.{if◌then◌else◌}
use Rattle.std.specs.Option.{option_and_then}
use Rattle.std.specs.declared.option.Option.{Option}
use Rattle.std.proofs.lemmas.Bool.{false≢true}
use Rattle.std.proofs.lemmas.Option.{slice_get_within}
use Rattle.a68_op_ident.specs.Formulas.{EachOf, IsToken, ReadsParts, HasItsPriority, is_operand, is_sign, signs_of, signs, sign_at, sign_of, operand_at, operand_of, next_sign}
use Rattle.a68_op_ident.specs.Inner.{Alternates, StandsBetween}
use Rattle.a68_op_ident.specs.Shapes.{IsBegun}
use Rattle.a68_op_ident.specs.declared.formula.Operand.{Operand}
use Rattle.a68_op_ident.specs.declared.formula.Sign.{Sign}
use Rattle.a68_op_ident.specs.declared.formula.FormulaPart.{FormulaPart}
use Rattle.a68_op_ident.specs.declared.formula.FormulaPart.TheVariants as token
use Rattle.a68_op_ident.proofs.Lists.{some_same, rest_at, less_or_not, all_join}
use Rattle.a68_ranges.specs.Tables.{AreRanges, RangeTables}
use Rattle.a68_tree.specs.Trees.{Built, AllBetween}
use Rattle.a68_tree.specs.declared.node.Node.{Node}

-- ---- the node of a sign or of an operand

pub record SignRead (nodes : List Node) (id : ℕ) (s : Sign) : Type 0 where
  pub node : Node
  pub there : slice_get nodes id ≡ Some node
  pub kind_is : is_sign node.kind ≡ true
  pub is : record { id = id; name = node.name; from = node.span.from } ≡ s

pub sign_read : (nodes : List Node) (id : ℕ) (s : Sign) → sign_at nodes id ≡ Some s → SignRead nodes id s
sign_read nodes id s e = go (slice_get nodes id) refl e
  where
    kind : (n : Node) → slice_get nodes id ≡ Some n → (b : Bool) → is_sign n.kind ≡ b → (if b then (let x : Sign = record { id = id; name = n.name; from = n.span.from } in Some x) else None) ≡ Some s → SignRead nodes id s
    kind n at true k f = record { node = n; there = at; kind_is = k; is = some_same f }
    kind n at false k f = absurd (cc)

    go : (o : Option Node) → slice_get nodes id ≡ o → option_and_then (sign_of id) o ≡ Some s → SignRead nodes id s
    go None at f = absurd (cc)
    go (Some n) at f = kind n at (is_sign n.kind) refl f

pub record OperandRead (nodes : List Node) (id : ℕ) (o : Operand) : Type 0 where
  pub node : Node
  pub there : slice_get nodes id ≡ Some node
  pub kind_is : is_sign node.kind ≡ false
  pub is : record { id = id; span = node.span } ≡ o

pub operand_read : (nodes : List Node) (id : ℕ) (o : Operand) → operand_at nodes id ≡ Some o → OperandRead nodes id o
operand_read nodes id o e = go (slice_get nodes id) refl e
  where
    kind : (n : Node) → slice_get nodes id ≡ Some n → (b : Bool) → is_sign n.kind ≡ b → (if b then None else (let x : Operand = record { id = id; span = n.span } in Some x)) ≡ Some o → OperandRead nodes id o
    kind n at true k f = absurd (cc)
    kind n at false k f = record { node = n; there = at; kind_is = k; is = some_same f }

    go : (m : Option Node) → slice_get nodes id ≡ m → option_and_then (operand_of id) m ≡ Some o → OperandRead nodes id o
    go None at f = absurd (cc)
    go (Some n) at f = kind n at (is_sign n.kind) refl f

pub next_is : (nodes : List Node) (from p : ℕ) (s : Sign) → next_sign nodes from p ≡ Some s → (p ≡ from) × SignRead nodes p s
next_is nodes from p s e = go (nat_eq p from) refl e
  where
    go : (b : Bool) → nat_eq p from ≡ b → (if b then sign_at nodes p else None) ≡ Some s → (p ≡ from) × SignRead nodes p s
    go true k f = (eqb-true p from k, sign_read nodes p s f)
    go false k f = absurd (cc)

-- one node is no sign and an operand
pub no_both : (nodes : List Node) (id k : ℕ) (n : Node) (o : Operand) → slice_get nodes k ≡ Some n → is_sign n.kind ≡ true → OperandRead nodes id o → id ≡ k → ⊥
no_both nodes id k n o at sign r same =
    let e : r.node ≡ n = some_same (sym r.there ∙ ap (slice_get nodes) same ∙ at) in
    false≢true (sym r.kind_is ∙ ap (λ (x : Node). is_sign x.kind) e ∙ sign)

not_both : (nodes : List Node) (from p : ℕ) (o : Operand) (s : Sign) → operand_at nodes p ≡ Some o → next_sign nodes from p ≡ Some s → ⊥
not_both nodes from p o s a b =
    let n = (next_is nodes from p s b).1 in
    no_both nodes p p n.node o n.there n.kind_is (operand_read nodes p o a) refl

-- one part is one kind of token
pub alike : (nodes : List Node) (from : ℕ) (after : Bool) (p : ℕ) (t u : FormulaPart) → IsToken nodes from after p t → IsToken nodes from after p u → (signs_of t ≡ signs_of u) × (is_operand t ≡ is_operand u)
alike nodes from false p (token.Operand o) (token.Operand q) a b = (refl, refl)
alike nodes from false p (token.Operand o) (token.Monad s) a b = absurd (not_both nodes from p o s a b)
alike nodes from false p (token.Operand o) (token.Dyad s q) a b = absurd b
alike nodes from false p (token.Monad s) (token.Operand o) a b = absurd (not_both nodes from p o s b a)
alike nodes from false p (token.Monad s) (token.Monad r) a b = (refl, refl)
alike nodes from false p (token.Monad s) (token.Dyad r q) a b = absurd b
alike nodes from false p (token.Dyad s q) u a b = absurd a
alike nodes from true p (token.Operand o) u a b = absurd a
alike nodes from true p (token.Monad s) u a b = absurd a
alike nodes from true p (token.Dyad s q) (token.Operand o) a b = absurd b
alike nodes from true p (token.Dyad s q) (token.Monad r) a b = absurd b
alike nodes from true p (token.Dyad s q) (token.Dyad r z) a b = (refl, refl)

sign_low : (nodes : List Node) (from p : ℕ) (s : Sign) → next_sign nodes from p ≡ Some s → from < length nodes
sign_low nodes from p s e = let r = next_is nodes from p s e in let same = r.0 in let w = slice_get_within nodes p r.1.node r.1.there in omega arith

pub token_low : (nodes : List Node) (from : ℕ) (after : Bool) (p : ℕ) (t : FormulaPart) → IsToken nodes from after p t → from ≤ length nodes → from + signs_of t ≤ length nodes
token_low nodes from false p (token.Operand o) a low = omega arith
token_low nodes from false p (token.Monad s) a low = let w = sign_low nodes from p s a in omega arith
token_low nodes from false p (token.Dyad s q) a low = absurd a
token_low nodes from true p (token.Operand o) a low = absurd a
token_low nodes from true p (token.Monad s) a low = absurd a
token_low nodes from true p (token.Dyad s q) a low = let w = sign_low nodes from p s a in omega arith

-- ---- reading from the first part to the last

push_then : {X : Type 0} (xs ys : List X) (x : X) → (xs ++ x ∷ []) ++ ys ≡ xs ++ x ∷ ys
push_then [] ys x = refl
push_then (z ∷ xs) ys x = ap (λ l. z ∷ l) (push_then xs ys x)

then_none : {X : Type 0} (xs : List X) → xs ++ [] ≡ xs
then_none [] = refl
then_none (x ∷ xs) = ap (λ l. x ∷ l) (then_none xs)

drop_all : {X : Type 0} (xs : List X) → drop (length xs) xs ≡ []
drop_all [] = refl
drop_all (x ∷ xs) = drop_all xs

-- what is read of the first parts, with what is due behind them
pub record ReadTo (nodes : List Node) (ranges : RangeTables) (parts : List ℕ) (formula i : ℕ) (tokens : List FormulaPart) (from : ℕ) (after : Bool) : Type 0 where
  pub low : from ≤ length nodes
  pub on : (rest : List FormulaPart) → ReadsParts nodes from after (drop i parts) rest → ReadsParts nodes (formula + 1) false parts (tokens ++ rest)
  pub none : ((rest : List FormulaPart) → ReadsParts nodes from after (drop i parts) rest → ⊥) → (all : List FormulaPart) → ReadsParts nodes (formula + 1) false parts all → ⊥
  pub ranked : (tree : Built) → AreRanges tree ranges → EachOf (HasItsPriority tree) tokens

pub read_first : (nodes : List Node) (ranges : RangeTables) (parts : List ℕ) (formula : ℕ) → formula < length nodes → ReadTo nodes ranges parts formula 0 [] (formula + 1) false
read_first nodes ranges parts formula lt = record { low = omega arith; on = λ rest r. r; none = λ h. h; ranked = λ tree are. tt }

module _ {nodes : List Node} {ranges : RangeTables} {parts : List ℕ} {formula i : ℕ} {tokens : List FormulaPart} {from : ℕ} {after : Bool} (read : ReadTo nodes ranges parts formula i tokens from after) where
  pub read_more : (p : ℕ) (t : FormulaPart) (new : List FormulaPart) → slice_get parts i ≡ Some p → IsToken nodes from after p t → ((tree : Built) → AreRanges tree ranges → HasItsPriority tree t)
      → new ≡ tokens ++ t ∷ [] → ReadTo nodes ranges parts formula (i + 1) new (from + signs_of t) (is_operand t)
  read_more p t new at is ranked grown = record {
    low = token_low nodes from after p t is read.low;
    on = λ rest r. rw (grown, push_then tokens rest t) (read.on (t ∷ rest) (subst (λ (ps : List ℕ). ReadsParts nodes from after ps (t ∷ rest)) (sym (rest_at parts i p at)) (is, r)));
    none = λ never. read.none (λ rest r. other never rest (subst (λ (ps : List ℕ). ReadsParts nodes from after ps rest) (rest_at parts i p at) r));
    ranked = λ tree are. rw grown (all_join (HasItsPriority tree) tokens (t ∷ []) (read.ranked tree are) (ranked tree are, tt));
  }
    where
      other : ((rest : List FormulaPart) → ReadsParts nodes (from + signs_of t) (is_operand t) (drop (i + 1) parts) rest → ⊥) → (rest : List FormulaPart) → ReadsParts nodes from after (p ∷ drop (i + 1) parts) rest → ⊥
      other never [] r = r
      other never (u ∷ us) r =
          let same = alike nodes from after p u t r.0 is in
          never us (subst (λ (b : Bool). ReadsParts nodes (from + signs_of t) b (drop (i + 1) parts) us) same.1
          (subst (λ (k : ℕ). ReadsParts nodes (from + k) (is_operand u) (drop (i + 1) parts) us) same.0 r.1))

  -- a part that is no token
  pub read_stop : (p : ℕ) → slice_get parts i ≡ Some p → ((t : FormulaPart) → IsToken nodes from after p t → ⊥) → (all : List FormulaPart) → ReadsParts nodes (formula + 1) false parts all → ⊥
  read_stop p at never = read.none (λ rest r. go rest (subst (λ (ps : List ℕ). ReadsParts nodes from after ps rest) (rest_at parts i p at) r))
    where
      go : (rest : List FormulaPart) → ReadsParts nodes from after (p ∷ drop (i + 1) parts) rest → ⊥
      go [] r = r
      go (u ∷ us) r = never u r.0

  at_end : i ≡ length parts → drop i parts ≡ []
  at_end e = ap (λ (k : ℕ). drop k parts) e ∙ drop_all parts

  pub read_all : i ≡ length parts → after ≡ true → ReadsParts nodes (formula + 1) false parts tokens
  read_all e operand = subst (ReadsParts nodes (formula + 1) false parts) (then_none tokens) (read.on [] (subst (λ (ps : List ℕ). ReadsParts nodes from after ps []) (sym (at_end e)) operand))

  pub read_short : i ≡ length parts → after ≡ false → (all : List FormulaPart) → ReadsParts nodes (formula + 1) false parts all → ⊥
  read_short e none = read.none (λ rest r. go rest (subst (λ (ps : List ℕ). ReadsParts nodes from after ps rest) (at_end e) r))
    where
      go : (rest : List FormulaPart) → ReadsParts nodes from after [] rest → ⊥
      go [] r = false≢true (sym none ∙ r)
      go (u ∷ us) r = r

-- ---- what is read

order_of : (nodes : List Node) (from : ℕ) (after : Bool) (p : ℕ) (t : FormulaPart) (ts : List FormulaPart) → IsToken nodes from after p t → Alternates (is_operand t) ts → Alternates after (t ∷ ts)
order_of nodes from false p (token.Operand o) ts a r = r
order_of nodes from false p (token.Monad s) ts a r = r
order_of nodes from false p (token.Dyad s q) ts a r = absurd a
order_of nodes from true p (token.Operand o) ts a r = absurd a
order_of nodes from true p (token.Monad s) ts a r = absurd a
order_of nodes from true p (token.Dyad s q) ts a r = r

pub alternates : (nodes : List Node) (from : ℕ) (after : Bool) (parts : List ℕ) (ts : List FormulaPart) → ReadsParts nodes from after parts ts → Alternates after ts
alternates nodes from after [] [] r = r
alternates nodes from after [] (t ∷ ts) r = absurd r
alternates nodes from after (p ∷ ps) [] r = absurd r
alternates nodes from after (p ∷ ps) (t ∷ ts) r = order_of nodes from after p t ts r.0 (alternates nodes (from + signs_of t) (is_operand t) ps ts r.1)

pub ends : (nodes : List Node) (from : ℕ) (after : Bool) (parts : List ℕ) (ts : List FormulaPart) → ReadsParts nodes from after parts ts → from ≤ length nodes → from + signs ts ≤ length nodes
ends nodes from after [] [] r low = omega arith
ends nodes from after [] (t ∷ ts) r low = absurd r
ends nodes from after (p ∷ ps) [] r low = absurd r
ends nodes from after (p ∷ ps) (t ∷ ts) r low =
    let e = ends nodes (from + signs_of t) (is_operand t) ps ts r.1 (token_low nodes from after p t r.0 low) in
    omega arith

-- a sign stands at a node
pub record IsSignNode (nodes : List Node) (k : ℕ) : Type 0 where
  pub node : Node
  pub there : slice_get nodes k ≡ Some node
  pub kind_is : is_sign node.kind ≡ true

at_next : (nodes : List Node) (from p k : ℕ) (s : Sign) → next_sign nodes from p ≡ Some s → k ≡ from → IsSignNode nodes k
at_next nodes from p k s e same =
    let r = next_is nodes from p s e in
    record { node = r.1.node; there = ap (slice_get nodes) (same ∙ sym r.0) ∙ r.1.there; kind_is = r.1.kind_is }

at_token : (nodes : List Node) (from : ℕ) (after : Bool) (p k : ℕ) (t : FormulaPart) → IsToken nodes from after p t → from ≤ k → k < from + signs_of t → IsSignNode nodes k
at_token nodes from false p k (token.Operand o) a low lt = absurd (omega arith)
at_token nodes from false p k (token.Monad s) a low lt = at_next nodes from p k s a (omega arith)
at_token nodes from false p k (token.Dyad s q) a low lt = absurd a
at_token nodes from true p k (token.Operand o) a low lt = absurd a
at_token nodes from true p k (token.Monad s) a low lt = absurd a
at_token nodes from true p k (token.Dyad s q) a low lt = at_next nodes from p k s a (omega arith)

pub sign_nodes : (nodes : List Node) (from : ℕ) (after : Bool) (parts : List ℕ) (ts : List FormulaPart) → ReadsParts nodes from after parts ts → (k : ℕ) → from ≤ k → k < from + signs ts → IsSignNode nodes k
sign_nodes nodes from after [] [] r k low lt = absurd (omega arith)
sign_nodes nodes from after [] (t ∷ ts) r k low lt = absurd r
sign_nodes nodes from after (p ∷ ps) [] r k low lt = absurd r
sign_nodes nodes from after (p ∷ ps) (t ∷ ts) r k low lt = ⊎_elim
    (λ now. at_token nodes from after p k t r.0 low now)
    (λ later. sign_nodes nodes (from + signs_of t) (is_operand t) ps ts r.1 k later (omega arith))
    (less_or_not k (from + signs_of t))

token_between : (nodes : List Node) (f last from : ℕ) (after : Bool) (p : ℕ) (t : FormulaPart) → IsToken nodes from after p t → f < p → ((k : ℕ) → f < k → k ≤ last → IsSignNode nodes k) → StandsBetween last (length nodes) t
token_between nodes f last from false p (token.Operand o) a lt are =
    let r = operand_read nodes p o a in
    let id : p ≡ o.id = ap (λ (x : Operand). x.id) r.is in
    let within = slice_get_within nodes p r.node r.there in
    ⊎_elim (λ low. (omega arith, omega arith)) (λ le. let s = are p lt le in absurd (no_both nodes p p s.node o s.there s.kind_is r refl)) (less_or_not last p)
token_between nodes f last from false p (token.Monad s) a lt are = tt
token_between nodes f last from false p (token.Dyad s q) a lt are = tt
token_between nodes f last from true p (token.Operand o) a lt are = absurd a
token_between nodes f last from true p (token.Monad s) a lt are = tt
token_between nodes f last from true p (token.Dyad s q) a lt are = tt

-- the operands stand behind all signs
pub between : (nodes : List Node) (f last from : ℕ) (after : Bool) (parts : List ℕ) (ts : List FormulaPart) → ReadsParts nodes from after parts ts → AllBetween f (length nodes) parts
    → ((k : ℕ) → f < k → k ≤ last → IsSignNode nodes k) → EachOf (StandsBetween last (length nodes)) ts
between nodes f last from after [] [] r all are = tt
between nodes f last from after [] (t ∷ ts) r all are = absurd r
between nodes f last from after (p ∷ ps) [] r all are = absurd r
between nodes f last from after (p ∷ ps) (t ∷ ts) r all are =
    (token_between nodes f last from after p t r.0 all.0 are, between nodes f last (from + signs_of t) (is_operand t) ps ts r.1 all.2 are)

-- a sign has a spelling
abbrev pub IsNamed : (names : ℕ) → FormulaPart → Type 0
IsNamed names (token.Operand o) = Unit {0}
IsNamed names (token.Monad s) = s.name < names
IsNamed names (token.Dyad s q) = s.name < names

sign_named : (nodes : List Node) (names from p : ℕ) (s : Sign) → next_sign nodes from p ≡ Some s → ((i : ℕ) (n : Node) → slice_get nodes i ≡ Some n → n.name < names) → s.name < names
sign_named nodes names from p s e are =
    let r = (next_is nodes from p s e).1 in
    let same : r.node.name ≡ s.name = ap (λ (x : Sign). x.name) r.is in
    let lt = are p r.node r.there in
    rw (← same) lt

token_named : (nodes : List Node) (names from : ℕ) (after : Bool) (p : ℕ) (t : FormulaPart) → IsToken nodes from after p t → ((i : ℕ) (n : Node) → slice_get nodes i ≡ Some n → n.name < names) → IsNamed names t
token_named nodes names from false p (token.Operand o) a are = tt
token_named nodes names from false p (token.Monad s) a are = sign_named nodes names from p s a are
token_named nodes names from false p (token.Dyad s q) a are = absurd a
token_named nodes names from true p (token.Operand o) a are = absurd a
token_named nodes names from true p (token.Monad s) a are = absurd a
token_named nodes names from true p (token.Dyad s q) a are = sign_named nodes names from p s a are

pub named : (nodes : List Node) (names from : ℕ) (after : Bool) (parts : List ℕ) (ts : List FormulaPart) → ReadsParts nodes from after parts ts → ((i : ℕ) (n : Node) → slice_get nodes i ≡ Some n → n.name < names) → EachOf (IsNamed names) ts
named nodes names from after [] [] r are = tt
named nodes names from after [] (t ∷ ts) r are = absurd r
named nodes names from after (p ∷ ps) [] r are = absurd r
named nodes names from after (p ∷ ps) (t ∷ ts) r are = (token_named nodes names from after p t r.0 are, named nodes names (from + signs_of t) (is_operand t) ps ts r.1 are)

-- where a token begins
abbrev pub begin_of : FormulaPart → ℕ
begin_of (token.Operand o) = o.span.from
begin_of (token.Monad s) = s.from
begin_of (token.Dyad s q) = s.from

operand_begun : (nodes : List Node) (p : ℕ) (o : Operand) → operand_at nodes p ≡ Some o → IsBegun nodes o.span.from
operand_begun nodes p o e = let r = operand_read nodes p o e in record { id = p; node = r.node; there = r.there; here = ap (λ (x : Operand). x.span.from) (sym r.is) }

sign_begun : (nodes : List Node) (from p : ℕ) (s : Sign) → next_sign nodes from p ≡ Some s → IsBegun nodes s.from
sign_begun nodes from p s e = let r = (next_is nodes from p s e).1 in record { id = p; node = r.node; there = r.there; here = ap (λ (x : Sign). x.from) (sym r.is) }

token_begun : (nodes : List Node) (from : ℕ) (after : Bool) (p : ℕ) (t : FormulaPart) → IsToken nodes from after p t → IsBegun nodes (begin_of t)
token_begun nodes from false p (token.Operand o) a = operand_begun nodes p o a
token_begun nodes from false p (token.Monad s) a = sign_begun nodes from p s a
token_begun nodes from false p (token.Dyad s q) a = absurd a
token_begun nodes from true p (token.Operand o) a = absurd a
token_begun nodes from true p (token.Monad s) a = absurd a
token_begun nodes from true p (token.Dyad s q) a = sign_begun nodes from p s a

-- each token begins where a node does
pub all_begun : (nodes : List Node) (from : ℕ) (after : Bool) (parts : List ℕ) (ts : List FormulaPart) → ReadsParts nodes from after parts ts → EachOf (λ t. IsBegun nodes (begin_of t)) ts
all_begun nodes from after [] [] r = tt
all_begun nodes from after [] (t ∷ ts) r = absurd r
all_begun nodes from after (p ∷ ps) [] r = absurd r
all_begun nodes from after (p ∷ ps) (t ∷ ts) r = (token_begun nodes from after p t r.0, all_begun nodes (from + signs_of t) (is_operand t) ps ts r.1)

-- ---- other nodes that are the same

next_same : (a b : List Node) (from p : ℕ) → slice_get b p ≡ slice_get a p → next_sign b from p ≡ next_sign a from p
next_same a b from p same = ap (λ (o : Option Node). if nat_eq p from then option_and_then (sign_of p) o else None) same

token_same : (a b : List Node) (from : ℕ) (after : Bool) (p : ℕ) (t : FormulaPart) → IsToken a from after p t → slice_get b p ≡ slice_get a p → IsToken b from after p t
token_same a b from false p (token.Operand o) i same = ap (λ (n : Option Node). option_and_then (operand_of p) n) same ∙ i
token_same a b from false p (token.Monad s) i same = next_same a b from p same ∙ i
token_same a b from false p (token.Dyad s q) i same = absurd i
token_same a b from true p (token.Operand o) i same = absurd i
token_same a b from true p (token.Monad s) i same = absurd i
token_same a b from true p (token.Dyad s q) i same = next_same a b from p same ∙ i

-- a formula reads the same where all nodes behind its own are the same
pub reads_same : (a b : List Node) (f count from : ℕ) (after : Bool) (parts : List ℕ) (ts : List FormulaPart) → ReadsParts a from after parts ts → AllBetween f count parts
    → ((k : ℕ) → f < k → slice_get b k ≡ slice_get a k) → ReadsParts b from after parts ts
reads_same a b f count from after [] [] r all same = r
reads_same a b f count from after [] (t ∷ ts) r all same = absurd r
reads_same a b f count from after (p ∷ ps) [] r all same = absurd r
reads_same a b f count from after (p ∷ ps) (t ∷ ts) r all same =
    (token_same a b from after p t r.0 (same p all.0), reads_same a b f count (from + signs_of t) (is_operand t) ps ts r.1 all.2 same)

-- two readings have as many signs
pub same_count : (nodes : List Node) (from : ℕ) (after : Bool) (parts : List ℕ) (ts us : List FormulaPart) → ReadsParts nodes from after parts ts → ReadsParts nodes from after parts us → signs ts ≡ signs us
same_count nodes from after [] [] [] r s = refl
same_count nodes from after [] [] (u ∷ us) r s = absurd s
same_count nodes from after [] (t ∷ ts) us r s = absurd r
same_count nodes from after (p ∷ ps) [] us r s = absurd r
same_count nodes from after (p ∷ ps) (t ∷ ts) [] r s = absurd s
same_count nodes from after (p ∷ ps) (t ∷ ts) (u ∷ us) r s =
    let same = alike nodes from after p u t s.0 r.0 in
    let rest = same_count nodes (from + signs_of t) (is_operand t) ps ts us r.1
    (subst (λ (b : Bool). ReadsParts nodes (from + signs_of t) b ps us) same.1 (subst (λ (k : ℕ). ReadsParts nodes (from + k) (is_operand u) ps us) same.0 s.1)) in
    let count = same.0 in
    omega arith
