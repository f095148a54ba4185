-- Inner: the headline does not rest on this file.
-- A value as contracts see it.
use Rattle.a68_values.specs.Content.{Content, void, plain, layout, structure, row, united, contents_of}
use Rattle.a68_values.specs.declared.value.ValueNode.{ValueNode}
use Rattle.a68_values.specs.declared.value.ValueNode.TheVariants.{Void, Plain, Layout, Structure, Row, United}

abbrev pub content_of : ValueNode → Content
content_of Void = void
content_of (Plain p) = plain p
content_of (Layout l) = layout l
content_of (Structure parts) = structure (contents_of parts)
content_of (Row bounds parts) = row bounds (contents_of parts)
content_of (United mode value) = united mode value.value
