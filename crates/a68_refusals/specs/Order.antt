-- In which order the rules are told that the nodes of a tree break (own): the parts of a node from left to right and then the node.
use Rattle.std.specs.Prelude.{◌≡◌, ◌+◌, ◌||◌, ◌&&◌, ℕ, zero, suc, length, nat_eq, nat_lt, Option, Some, None, Bool, true, false, if◌then◌else◌}
use Rattle.a68_base.specs.declared.refusal.Rule.{Rule}
use Rattle.a68_base.specs.declared.refusal.Rule.TheVariants as rules
use Rattle.a68_definitions.specs.Defined.{part_from_end}
use Rattle.a68_ranges.specs.Nodes.{kind_at, parts_at}
use Rattle.a68_refusals.specs.declared.rule.NodeRule.{NodeRule}
use Rattle.a68_refusals.specs.declared.rule.NodeRule.TheVariants.{N1, N4, O1, C1, C2, C3, P1, P2, J1, J2}
use Rattle.a68_refusals.specs.declared.turn.Broken.{Broken}
use Rattle.a68_tree.specs.Trees.{Built}
use Rattle.a68_tree.specs.declared.kind.NodeKind.{NodeKind}
use Rattle.a68_tree.specs.declared.kind.NodeKind.TheVariants as kind

-- of the rules that one node breaks the first in this order is told
abbrev pub rank : NodeRule → ℕ
rank N1 = 0
rank N4 = 1
rank O1 = 2
rank C1 = 3
rank C2 = 4
rank C3 = 5
rank P1 = 6
rank P2 = 7
rank J1 = 8
rank J2 = 9

abbrev pub rule_of : NodeRule → Rule
rule_of N1 = rules.N1
rule_of N4 = rules.N4
rule_of O1 = rules.O1
rule_of C1 = rules.C1
rule_of C2 = rules.C2
rule_of C3 = rules.C3
rule_of P1 = rules.P1
rule_of P2 = rules.P2
rule_of J1 = rules.J1
rule_of J2 = rules.J2

abbrev pub is_formula : NodeKind → Bool
is_formula kind.Monadic = true
is_formula kind.Dyadic = true
is_formula _ = false

-- The last operand of a formula, down through so many formulas at most; any other node is its own. A node has a greater number than what stands
-- behind it in the text, but for formulas: these have the number of a sign, before all of their operands.
abbrev pub last_operand : Built → (depth node : ℕ) → ℕ
last_operand tree zero n = n
last_operand tree (suc depth) n = if is_formula (kind_at tree n) then last_operand tree depth (part_from_end (parts_at tree n) 1) else n

-- a greater turn comes first; what the program is asked is told last
abbrev pub turn_of : Option ℕ → ℕ
turn_of None = 0
turn_of (Some n) = n + 1

abbrev pub operand_of : Built → Option ℕ → ℕ
operand_of tree None = 0
operand_of tree (Some n) = last_operand tree (length tree.nodes) n + 1

abbrev pub told_by : Built → (node : Option ℕ) → NodeRule → (place : ℕ) → Broken
told_by tree node rule place = record { operand = operand_of tree node; node = turn_of node; rule = rule; place = place }

-- one number is less, or, where both are equal, the rest says so
abbrev pub less : (one other : ℕ) → (rest : Bool) → Bool
less a b rest = nat_lt a b || (nat_eq a b && rest)

abbrev pub is_before : Broken → Broken → Bool
is_before a b = less b.operand a.operand (less b.node a.node (less (rank a.rule) (rank b.rule) (nat_lt a.place b.place)))

abbrev pub earlier : Option Broken → Option Broken → Option Broken
earlier None other = other
earlier (Some f) None = Some f
earlier (Some f) (Some g) = if is_before g f then Some g else Some f

-- whether it may come before the first so far
abbrev pub may_precede : (found : Option Broken) → Broken → Bool
may_precede None b = true
may_precede (Some f) b = is_before b f

-- the first of those for which something holds, or none
abbrev pub IsFirstOf : (Broken → Type 0) → Option Broken → Type 0
IsFirstOf Holds None = (b : Broken) → Holds b → ⊥
IsFirstOf Holds (Some f) = Holds f × ((b : Broken) → Holds b → is_before b f ≡ false)
