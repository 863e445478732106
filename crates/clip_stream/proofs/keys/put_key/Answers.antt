use Rattle.std.proofs.Common.{◌∷◌, [], codes, decimal, true, false, arith}
use Rattle.std.specs.Str.{chars}
use Rattle.guac_framing.specs.Appended.{separated}
use Rattle.clip_stream.proofs.Typing.{appended, key_appended, key_few, longer, number_few, state_few}
use Rattle.clip_stream.proofs.keys.put_key.Goals as goal

pub unwrap-requires : goal.unwrap-requires
unwrap-requires c = c.put_element.ensures.succeeds (omega (arith, key_few, c.requires))

pub unwrap-requires-2 : goal.unwrap-requires-2
unwrap-requires-2 c =
    let old = c.args.into.now in
    let opcode = c.put_element.new.into in
    let first = longer old.items opcode.items (separated true (chars (codes "key"))) old.len opcode.len 5 (appended _ _ c.unwrap.ensures c.put_element.ensures.appended) old.ok.0 opcode.ok.0 key_few in
    c.put_keysym.ensures.succeeds (omega (arith, first, number_few c.args.keysym c.ranges.keysym.fits, c.put_element.ensures.capacity, c.requires))

pub unwrap-requires-3 : goal.unwrap-requires-3
unwrap-requires-3 c =
    let old = c.args.into.now in
    let opcode = c.put_element.new.into in
    let number = c.put_keysym.new.into in
    let first = longer old.items opcode.items (separated true (chars (codes "key"))) old.len opcode.len 5 (appended _ _ c.unwrap.ensures c.put_element.ensures.appended) old.ok.0 opcode.ok.0 key_few in
    let second = longer opcode.items number.items (separated false (decimal c.args.keysym)) opcode.len number.len 14 (appended _ _ c.unwrap-2.ensures c.put_keysym.ensures.appended) opcode.ok.0 number.ok.0
    (number_few c.args.keysym c.ranges.keysym.fits) in
    c.put_element-2.ensures.succeeds (omega (arith, first, second, state_few c.args.pressed c.state_of.result.now c.state_of.ensures, c.put_element.ensures.capacity, c.put_keysym.ensures.capacity, c.requires))

pub unwrap-requires-4 : goal.unwrap-requires-4
unwrap-requires-4 c =
    let old = c.args.into.now in
    let opcode = c.put_element.new.into in
    let number = c.put_keysym.new.into in
    let state = c.put_element-2.new.into in
    let first = longer old.items opcode.items (separated true (chars (codes "key"))) old.len opcode.len 5 (appended _ _ c.unwrap.ensures c.put_element.ensures.appended) old.ok.0 opcode.ok.0 key_few in
    let second = longer opcode.items number.items (separated false (decimal c.args.keysym)) opcode.len number.len 14 (appended _ _ c.unwrap-2.ensures c.put_keysym.ensures.appended) opcode.ok.0 number.ok.0
    (number_few c.args.keysym c.ranges.keysym.fits) in
    let third = longer number.items state.items (separated false (chars c.state_of.result.now)) number.len state.len 4 (appended _ _ c.unwrap-3.ensures c.put_element-2.ensures.appended) number.ok.0 state.ok.0
    (state_few c.args.pressed c.state_of.result.now c.state_of.ensures) in
    c.put_end.ensures.succeeds (omega (arith, first, second, third, c.put_element.ensures.capacity, c.put_keysym.ensures.capacity, c.put_element-2.ensures.capacity, c.requires))

pub returns-clause-appended : goal.returns-clause-appended
returns-clause-appended c =
    key_appended c.args.into.now.items c.put_element.new.into.items c.put_keysym.new.into.items c.put_element-2.new.into.items c.put_end.new.into.items c.args.keysym c.args.pressed c.state_of.result.now c.state_of.ensures
    (appended _ _ c.unwrap.ensures c.put_element.ensures.appended) (appended _ _ c.unwrap-2.ensures c.put_keysym.ensures.appended) (appended _ _ c.unwrap-3.ensures c.put_element-2.ensures.appended)
    (appended _ _ c.unwrap-4.ensures c.put_end.ensures.appended)

pub returns-clause-few : goal.returns-clause-few
returns-clause-few c =
    let old = c.args.into.now in
    let opcode = c.put_element.new.into in
    let number = c.put_keysym.new.into in
    let state = c.put_element-2.new.into in
    let end = c.put_end.new.into in
    let first = longer old.items opcode.items (separated true (chars (codes "key"))) old.len opcode.len 5 (appended _ _ c.unwrap.ensures c.put_element.ensures.appended) old.ok.0 opcode.ok.0 key_few in
    let second = longer opcode.items number.items (separated false (decimal c.args.keysym)) opcode.len number.len 14 (appended _ _ c.unwrap-2.ensures c.put_keysym.ensures.appended) opcode.ok.0 number.ok.0
    (number_few c.args.keysym c.ranges.keysym.fits) in
    let third = longer number.items state.items (separated false (chars c.state_of.result.now)) number.len state.len 4 (appended _ _ c.unwrap-3.ensures c.put_element-2.ensures.appended) number.ok.0 state.ok.0
    (state_few c.args.pressed c.state_of.result.now c.state_of.ensures) in
    let last = longer state.items end.items (59 ∷ []) state.len end.len 1 (appended _ _ c.unwrap-4.ensures c.put_end.ensures.appended) state.ok.0 end.ok.0 (omega arith) in
    omega (arith, first, second, third, last)
