pub mod GeodeticLaws
