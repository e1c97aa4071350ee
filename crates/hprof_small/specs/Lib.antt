pub mod Small
pub mod FewObjects
