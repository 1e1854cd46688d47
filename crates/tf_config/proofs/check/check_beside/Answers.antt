use Rattle.std.proofs.Common.{◌++◌}
use Rattle.tf_config.specs.Catalogue.{mappings_of}
use Rattle.tf_config.specs.Refusals.{refusal_by, faults_of_forms, faults_of_names, faults_of_fields, faults_of_numbers}
use Rattle.tf_config.proofs.LadderLaws.{refused, passed}
use Rattle.tf_config.proofs.check.check_beside.Goals as goal

pub returns-in_err-check_forms : goal.returns-in_err-check_forms
unfolding refusal_by
returns-in_err-check_forms c =
    let forms = faults_of_forms c.args.catalogue.now c.args.query.now c.args.config.now in
    let names = faults_of_names c.args.catalogue.now c.args.need_dest c.args.config.now in
    let fields = faults_of_fields (mappings_of c.args.catalogue.now c.args.config.now.sources) c.args.query.now c.args.config.now in
    refused forms (names ++ (fields ++ faults_of_numbers c.args.config.now)) c.in_err-check_forms.field-0.0 c.from_residual.result c.in_err-check_forms.ensures c.from_residual.ensures

pub returns-in_err-check_names : goal.returns-in_err-check_names
unfolding refusal_by
returns-in_err-check_names c =
    let forms = faults_of_forms c.args.catalogue.now c.args.query.now c.args.config.now in
    let names = faults_of_names c.args.catalogue.now c.args.need_dest c.args.config.now in
    let fields = faults_of_fields (mappings_of c.args.catalogue.now c.args.config.now.sources) c.args.query.now c.args.config.now in
    let later = fields ++ faults_of_numbers c.args.config.now in
    let told = c.from_residual-in_err-check_names in
    passed forms (names ++ later) told.result c.in_ok-check_forms.ensures (refused names later c.in_err-check_names.field-0.0 told.result c.in_err-check_names.ensures told.ensures)

pub returns-in_err-check_fields : goal.returns-in_err-check_fields
unfolding refusal_by
returns-in_err-check_fields c =
    let forms = faults_of_forms c.args.catalogue.now c.args.query.now c.args.config.now in
    let names = faults_of_names c.args.catalogue.now c.args.need_dest c.args.config.now in
    let fields = faults_of_fields (mappings_of c.args.catalogue.now c.args.config.now.sources) c.args.query.now c.args.config.now in
    let numbers = faults_of_numbers c.args.config.now in
    let told = c.from_residual-in_err-check_fields in
    passed forms (names ++ (fields ++ numbers)) told.result c.in_ok-check_forms.ensures
    (passed names (fields ++ numbers) told.result c.in_ok-check_names.ensures (refused fields numbers c.in_err-check_fields.field-0.0 told.result c.in_err-check_fields.ensures told.ensures))

pub returns : goal.returns
unfolding refusal_by
returns c =
    let forms = faults_of_forms c.args.catalogue.now c.args.query.now c.args.config.now in
    let names = faults_of_names c.args.catalogue.now c.args.need_dest c.args.config.now in
    let fields = faults_of_fields (mappings_of c.args.catalogue.now c.args.config.now.sources) c.args.query.now c.args.config.now in
    let numbers = faults_of_numbers c.args.config.now in
    let told = c.check_numbers.result in
    passed forms (names ++ (fields ++ numbers)) told c.in_ok-check_forms.ensures (passed names (fields ++ numbers) told c.in_ok-check_names.ensures (passed fields numbers told c.in_ok-check_fields.ensures c.check_numbers.ensures))
