use Rattle.std.proofs.Common.{◌≡◌, ◌++◌, ◌∷◌, [], ℕ, List, refl, sym, ap, subst, ◌∙◌, arith, rules}
use Rattle.std.proofs.lemmas.List.{append-nil, length-append}
use Rattle.hprof_byte_tables.specs.Spans.{AreSpansOf, framed, row_bytes, rows_lying}
use Rattle.hprof_tables.specs.Relation.{contents_of}
use Rattle.hprof_tables.proofs.Missing.{contents-append}
use Rattle.hprof_byte_tables.proofs.Spans.{behind_more, put_more, within-next, lying-next}
use Rattle.hprof_byte_tables.proofs.framed_rows.append_rows.Goals as goal

pub loop-key-init : goal.loop-key-init
loop-key-init c =
    let none : c.reserve_exact.new.self.items ≡ [] = search rules in
    record {
      behind = ([], sym (append-nil c.args.bytes.now.items));
      put = sym (append-nil c.args.bytes.now.items);
      within = subst (AreSpansOf c.args.bytes.now.items) (sym none) tt;
      lying = ap (rows_lying c.args.bytes.now.items) none;
      same = λ nothing. refl;
      room = omega arith;
    }

pub loop-key-preserved : goal.loop-key-preserved
loop-key-preserved c =
    let now = c.loop-key.bytes.items in
    let row = c.in-Some.row.0.now in
    let new = c.make.new.room.items in
    let key = c.in-Some.key in
    let span = c.in_ok-span.span in
    let made = c.in_ok-span.ensures.ok in
    let pushed : c.push.new.self.items ≡ c.loop-key.spans.items ++ (key, span) ∷ [] = c.in_ok-push.ensures.items in
    record {
      behind = behind_more c.args.bytes.now.items now (framed row) new c.loop-key.invariant.behind made.0;
      put = put_more c.args.bytes.now.items now row new (contents_of (λ row. row.0.now) c.loop-key.yielded) key c.loop-key.invariant.put
          made.0
          ∙ ap (λ (those : List (ℕ × List ℕ)). c.args.bytes.now.items ++ row_bytes those)
          (sym (contents-append (λ row. row.0.now) c.loop-key.yielded (key, c.in-Some.row)));
      within = subst (AreSpansOf new) (sym pushed)
          (within-next now row new c.loop-key.spans.items key span made.0 made.1 made.2 c.loop-key.invariant.within);
      lying = ap (rows_lying new) pushed
          ∙ lying-next now row new c.loop-key.spans.items key span made.0 made.1 made.2
          (contents_of (λ row. row.0.now) c.loop-key.yielded)
          c.loop-key.invariant.within c.loop-key.invariant.lying
          ∙ sym (contents-append (λ row. row.0.now) c.loop-key.yielded (key, c.in-Some.row));
      same = λ nothing. absurd (omega (arith, nothing, length-append c.loop-key.yielded ((key, c.in-Some.row) ∷ [])));
      room = omega (arith, c.loop-key.invariant.room, c.make.ensures.room);
    }

pub returns-in_err-span-clause-behind : goal.returns-in_err-span-clause-behind
returns-in_err-span-clause-behind c = search rules

pub returns-in_err-span-clause-room : goal.returns-in_err-span-clause-room
returns-in_err-span-clause-room c = search rules

pub returns-in_err-push-clause-room : goal.returns-in_err-push-clause-room
returns-in_err-push-clause-room c = search rules
