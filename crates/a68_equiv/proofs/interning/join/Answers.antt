use Rattle.a68_equiv.proofs.interning.join.Goals as goal

pub returns : goal.returns
returns c = record {
  class = c.numbered_in_room-class.result;
  without_flex = c.numbered_in_room-without_flex.result;
  node = c.numbered_in_room.result;
  between = c.numbered_in_room-class.new.table.entries;
  one = c.numbered_in_room-class.ensures.numbered;
  other = c.numbered_in_room-without_flex.ensures.numbered;
  found = c.numbered_in_room.ensures.numbered;
  added = c.push_two.ensures;
}
