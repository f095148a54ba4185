-- Inner: the headline does not rest on this file.
-- The parts of a value are smaller than it.
use Rattle.std.specs.Prelude.{◌≤◌, max}
use Rattle.std.proofs.Common.{arith}
use Rattle.a68_values.specs.declared.value.ValueNode.{ValueNode}
use Rattle.a68_values.specs.declared.value.ValueNode.TheVariants.{Void, Plain, Layout, Structure, Row, United}
use Rattle.a68_values.specs.declared.value.Elements.TheDeep.{deep-ValueNode}
use Rattle.a68_values.specs.Content.{size_of}
use Rattle.a68_values.specs.Nodes.{content_of}

pub depth_le-size_of : (node : ValueNode) → max (deep-ValueNode node) 0 ≤ size_of (content_of node)
depth_le-size_of Void = omega arith
depth_le-size_of (Plain p) = omega arith
depth_le-size_of (Layout l) = omega arith
depth_le-size_of (Structure parts) = omega arith
depth_le-size_of (Row bounds parts) = omega arith
depth_le-size_of (United mode value) = omega arith
