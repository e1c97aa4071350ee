use Rattle.hprof_rows.proofs.table_rows.next_fact.Goals as goal

pub returns-in-Names-clause-lists : goal.returns-in-Names-clause-lists
returns-in-Names-clause-lists c = c.next_name.ensures.lists c.args.ids

pub returns-in-Loads-clause-lists : goal.returns-in-Loads-clause-lists
returns-in-Loads-clause-lists c = c.next_load.ensures.lists c.args.ids

pub returns-in-Unloads-clause-lists : goal.returns-in-Unloads-clause-lists
returns-in-Unloads-clause-lists c = c.next_unload.ensures.lists c.args.ids

pub returns-in-Frames-clause-lists : goal.returns-in-Frames-clause-lists
returns-in-Frames-clause-lists c = c.next_frame.ensures.lists c.args.ids

pub returns-in-Starts-clause-lists : goal.returns-in-Starts-clause-lists
returns-in-Starts-clause-lists c = c.next_start.ensures.lists c.args.ids

pub returns-in-Ends-clause-lists : goal.returns-in-Ends-clause-lists
returns-in-Ends-clause-lists c = c.next_end.ensures.lists c.args.ids

pub returns-in-Roots-clause-lists : goal.returns-in-Roots-clause-lists
returns-in-Roots-clause-lists c = c.next_root.ensures.lists c.args.ids
