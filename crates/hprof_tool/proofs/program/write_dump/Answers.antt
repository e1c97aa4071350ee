use Rattle.hprof_tool.proofs.program.write_dump.Goals as goal

pub returns-in-Dump-clause-done : goal.returns-in-Dump-clause-done
returns-in-Dump-clause-done g c = rw c.in-Dump.is c.write_new_file.ensures.done

pub returns-in-Dump-clause-refused : goal.returns-in-Dump-clause-refused
returns-in-Dump-clause-refused g c = rw c.in-Dump.is c.write_new_file.ensures.refused

pub returns-in-Dump101-clause-done : goal.returns-in-Dump101-clause-done
returns-in-Dump101-clause-done g c = rw c.in-Dump101.is c.write_new_file-in-Dump101.ensures.done

pub returns-in-Dump101-clause-refused : goal.returns-in-Dump101-clause-refused
returns-in-Dump101-clause-refused g c = rw c.in-Dump101.is c.write_new_file-in-Dump101.ensures.refused
